use Rattle.std.proofs.Common.{arith}
use Rattle.elf_lint_symbols.proofs.by_relocation.each_at_hand.Goals as goal

pub show_found-requires-clause-within : goal.show_found-requires-clause-within
show_found-requires-clause-within g c = λ i x holds. (omega arith, tt)
