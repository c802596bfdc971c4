use Rattle.gelf_view.proofs.IndexTables.{IsNotBelow}
use Rattle.gelf_view.proofs.symbol_calls.shndx_table.Given as goal

abbrev pub invariant-loop-table : goal.invariant-loop-table
invariant-loop-table g l = IsNotBelow l.elf.o l.s.0 l.table
