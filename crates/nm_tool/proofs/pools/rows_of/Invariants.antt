use Rattle.std.proofs.Common.{◌≡◌, ◌++◌, map, drop}
use Rattle.std.specs.Prelude.{All}
use Rattle.nm_tool.specs.Keys.{as_entry, KeyIs}
use Rattle.nm_tool.specs.Pools.{spot_entries}
use Rattle.nm_tool.proofs.pools.rows_of.Given as goal

abbrev pub invariant-loop-spot : goal.invariant-loop-spot
invariant-loop-spot l = record {
  rows : map (as_entry l.by_value) l.rows.items ++ spot_entries l.by_value l.names (drop l.spot-index l.spots) ≡ spot_entries l.by_value l.pool.names l.pool.spots;
  keys : All (KeyIs l.by_value) l.rows.items;
}
