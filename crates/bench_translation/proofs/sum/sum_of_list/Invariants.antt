-- The sum of the symbols so far.
use Rattle.std.proofs.Common.{◌≡◌, take}
use Rattle.bench_translation.specs.Sums.{with_symbols}
use Rattle.bench_translation.proofs.sum.sum_of_list.Given as goal

abbrev pub invariant-loop-symbol : goal.invariant-loop-symbol
invariant-loop-symbol l = l.sum ≡ with_symbols 0 (take l.symbol-index l.symbols)
