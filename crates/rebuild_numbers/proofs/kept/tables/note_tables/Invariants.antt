use Rattle.rebuild_numbers.specs.Kept.Tables.{has_indexes, AreFirstLinking}
use Rattle.rebuild_numbers.proofs.kept.tables.note_tables.Given as goal

abbrev pub invariant-loop-s : goal.invariant-loop-s
invariant-loop-s g l = AreFirstLinking l.elf.o (has_indexes l.elf.o l.removed) l.first l.s
