use Rattle.rebuild_object.proofs.FitLaws.{FitBelow}
use Rattle.rebuild_object.proofs.headers.segments_fit.Given as goal

abbrev pub invariant-loop-i : goal.invariant-loop-i
invariant-loop-i g l = FitBelow l.elf.o l.i
