use Rattle.std.proofs.Common.{arith}
use Rattle.rebuild_copy.proofs.edits.hold_ranges.Goals as goal

pub returns-clause-long : goal.returns-clause-long
returns-clause-long c = omega (arith, c.len-count.ensures)
