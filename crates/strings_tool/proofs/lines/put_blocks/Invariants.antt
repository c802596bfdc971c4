use Rattle.std.proofs.Common.{◌≤◌, ◌-◌, length}
use Rattle.strings_tool.specs.Scans.{HasPut}
use Rattle.strings_tool.proofs.lines.put_blocks.Given as goal

abbrev pub invariant-lanes : goal.invariant-lanes
invariant-lanes l = record {
  within : l.used ≤ length l.bytes;
  put : HasPut l.options l.at l.bytes l.initial.page l.page l.used;
}

abbrev pub decreases-lanes : goal.decreases-lanes
decreases-lanes l = length l.bytes - l.used
