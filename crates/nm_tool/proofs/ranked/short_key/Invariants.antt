use Rattle.std.proofs.Common.{◌≡◌, ◌<◌, ◌^◌}
use Rattle.nm_tool.specs.Ranked.{number_from}
use Rattle.nm_tool.proofs.ranked.short_key.Given as goal

abbrev pub invariant-loop-i : goal.invariant-loop-i
invariant-loop-i l = record {
  key : l.key ≡ number_from l.place l.i l.name;
  small : l.key < 256 ^ l.i;
}
