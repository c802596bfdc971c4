-- The run so far.
use Rattle.section_data.proofs.Runs.{IsSoFar}
use Rattle.section_data.proofs.spans.span_of.Given as goal

abbrev pub invariant-loop-i : goal.invariant-loop-i
invariant-loop-i l = IsSoFar l.span l.pieces l.i
