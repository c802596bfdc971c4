use Rattle.std.proofs.Common.{◌≡◌, ◌<◌, ℕ, false}
use Rattle.unstrip_tool.specs.Allocated.{is_lost}
use Rattle.unstrip_tool.proofs.allocated.first_allocated.Given as goal

abbrev pub invariant-loop-s : goal.invariant-loop-s
invariant-loop-s g l = (k : ℕ) → k < l.s → is_lost l.elf.o l.removed k ≡ false
