use Rattle.rebuild_plan.proofs.CopyLaws.{header_new}
use Rattle.rebuild_plan.proofs.planning.new_header.Goals as goal

pub returns : goal.returns
returns g c =
    header_new c.args.elf.now.o c.ehdr-old.result c.args.index c.args.count c.ehdr-old.ensures
