use Rattle.std.proofs.Common.{◌≤◌, length}
use Rattle.nm_tool.specs.Kept.{shown_name_in}
use Rattle.nm_tool.proofs.Ranking.{Shared}
use Rattle.nm_tool.proofs.ranked.shared_with.Given as goal

abbrev pub invariant-loop-k : goal.invariant-loop-k
invariant-loop-k l = record {
  within : l.count ≤ length l.first;
  shares : Shared (shown_name_in l.strings) l.count l.first l.rows l.k-index;
}
