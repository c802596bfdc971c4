use Rattle.rebuild_numbers.proofs.kept.FirstLaws.{tables_are}
use Rattle.rebuild_numbers.proofs.kept.tables.extended_tables.Goals as goal

pub returns-in-Ok-clause-ok : goal.returns-in-Ok-clause-ok
returns-in-Ok-clause-ok g c =
    tables_are c.args.elf.now.o c.args.removed.now _ c.note_tables.ensures
