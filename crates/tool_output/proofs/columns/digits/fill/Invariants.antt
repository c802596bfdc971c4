use Rattle.tool_output.proofs.columns.DigitLemmas.{DigitFilling}
use Rattle.tool_output.proofs.columns.digits.fill.Given as goal

abbrev pub invariant-loop-wide : goal.invariant-loop-wide
invariant-loop-wide g l = DigitFilling g.row.BASE l.fn.n l.wide l.at l.fn.buffer l.buffer

abbrev pub decreases-loop-wide : goal.decreases-loop-wide
decreases-loop-wide g l = l.wide

abbrev pub invariant-loop-left : goal.invariant-loop-left
invariant-loop-left g l = DigitFilling g.row.BASE l.fn.n l.left l.at l.fn.buffer l.buffer

abbrev pub decreases-loop-left : goal.decreases-loop-left
decreases-loop-left g l = l.left
