use Rattle.nm_tool.proofs.Sorting.{sorted_rows}
use Rattle.nm_tool.proofs.order.sorted.Goals as goal

pub returns : goal.returns
returns c = sorted_rows c.args.by_value _ _ c.requires c.sort_unstable.ensures.permutation c.sort_unstable.ensures.sorted
