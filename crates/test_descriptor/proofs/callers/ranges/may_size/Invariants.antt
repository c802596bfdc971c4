use Rattle.test_descriptor.specs.Callers.Ranges.{StaysWithin}
use Rattle.test_descriptor.proofs.callers.RangeLemmas.{AllBelow}
use Rattle.test_descriptor.proofs.callers.ranges.may_size.Given as goal

abbrev pub invariant-loop-s : goal.invariant-loop-s
invariant-loop-s g l = AllBelow (StaysWithin l.elf l.n) l.s
