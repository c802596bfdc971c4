use Rattle.std.proofs.Common.{◌≡◌}
use Rattle.rebuild_numbers.specs.Numbers.{numbers_without, kept_below}
use Rattle.rebuild_numbers.proofs.numbering.fill_numbers.Given as goal

abbrev pub invariant-loop-s : goal.invariant-loop-s
invariant-loop-s l = record {
  numbers : l.numbers ≡ numbers_without l.removed l.s;
  next : l.next ≡ kept_below l.removed l.s;
}
