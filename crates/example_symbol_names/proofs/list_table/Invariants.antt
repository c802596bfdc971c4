use Rattle.std.proofs.Common.{◌≡◌}
use Rattle.example_symbol_names.proofs.list_table.Given as goal

abbrev pub invariant-loop-i : goal.invariant-loop-i
invariant-loop-i g l = l.elf.o ≡ l.initial.elf.o
