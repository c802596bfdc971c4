use Rattle.elf_ident.specs.Front.{zero_shdr}
use Rattle.rebuild_copy.proofs.AddLaws.{zero_pushed}
use Rattle.rebuild_copy.proofs.adding.add_first.Goals as goal

pub returns-clause-ok : goal.returns-clause-ok
unfolding zero_shdr
returns-clause-ok c =
    zero_pushed c.args.x.now c.push_section.new.x c.push_section.result c.if-x-ne0.false
    c.push_section.ensures.ok
