use Rattle.std.proofs.Common.{arith}
use Rattle.size_tool.proofs.headers.sum_table.Goals as goal

pub sum_pieces-requires-clause-small : goal.sum_pieces-requires-clause-small
sum_pieces-requires-clause-small g c = omega (arith, c.requires.inside, c.len-end.ensures.size)
