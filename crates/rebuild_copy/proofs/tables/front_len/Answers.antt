use Rattle.std.proofs.Common.{arith}
use Rattle.rebuild_copy.proofs.tables.front_len.Goals as goal

pub returns-then-count-left : goal.returns-then-count-left
returns-then-count-left c = omega (arith, c.if-count-left.true)

pub returns : goal.returns
returns c = omega (arith, c.if-count-left.false)
