use Rattle.std.proofs.Common.{◌≡◌, ◌<◌, ◌^◌}
use Rattle.nm_tool.specs.Keys.{prefix}
use Rattle.nm_tool.proofs.order.prefix.Given as goal

abbrev pub invariant-loop-place : goal.invariant-loop-place
invariant-loop-place l = record { key : l.key ≡ prefix l.place l.name; small : l.key < 256 ^ l.place }
