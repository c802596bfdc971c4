use Rattle.std.proofs.Common.{◌≤◌, ◌-◌, drop}
use Rattle.strings_tool.specs.Masks.{ShowsBytes}
use Rattle.strings_tool.specs.Scans.{HasPut}
use Rattle.strings_tool.proofs.lines.put_block.Given as goal

abbrev pub invariant-runs : goal.invariant-runs
invariant-runs l = record {
  within : l.used ≤ 64;
  shown : ShowsBytes l.mask (64 - l.used) (drop l.used l.bytes);
  put : HasPut l.options l.at l.bytes l.initial.page l.page l.used;
}

abbrev pub decreases-runs : goal.decreases-runs
decreases-runs l = 64 - l.used
