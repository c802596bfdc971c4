use Rattle.std.proofs.Common.{◌≤◌, ◌-◌, length}
use Rattle.strings_tool.specs.Scans.{HasPut}
use Rattle.strings_tool.proofs.lines.put_each.Given as goal

abbrev pub invariant-runs : goal.invariant-runs
invariant-runs l = record {
  within : l.used ≤ length l.bytes;
  put : HasPut l.options l.at l.bytes l.initial.page l.page l.used;
}

abbrev pub decreases-runs : goal.decreases-runs
decreases-runs l = length l.bytes - l.used
