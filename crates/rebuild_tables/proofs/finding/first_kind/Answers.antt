use Rattle.rebuild_tables.proofs.FindLaws.{first_held}
use Rattle.rebuild_tables.proofs.finding.first_kind.Goals as goal

pub returns-in-Ok : goal.returns-in-Ok
returns-in-Ok g c = first_held c.args.elf.now.o c.args.s.0 c.in-Ok.kind c.in-Ok.ensures
