use Rattle.std.proofs.Common.{◌≡◌}
use Rattle.rebuild_keep.specs.Numbers.{kept_numbers_below}
use Rattle.rebuild_keep.proofs.numbers.push_below.Given as goal

abbrev pub invariant-loop-s : goal.invariant-loop-s
invariant-loop-s l = l.numbers ≡ kept_numbers_below l.removed l.s
