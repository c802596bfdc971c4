use Rattle.test_descriptor.specs.Callers.Ranges.{StaysOver}
use Rattle.test_descriptor.proofs.callers.RangeLemmas.{AllBelow}
use Rattle.test_descriptor.proofs.callers.ranges.may_write.Given as goal

abbrev pub invariant-loop-s : goal.invariant-loop-s
invariant-loop-s g l = AllBelow (StaysOver l.elf l.at l.n) l.s
