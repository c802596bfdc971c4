use Rattle.std.proofs.Common.{◌≤◌, ◌-◌, length}
use Rattle.strings_tool.specs.Skips.{Skips}
use Rattle.strings_tool.proofs.runs.find_run.Given as goal

abbrev pub invariant-lanes : goal.invariant-lanes
invariant-lanes l = record { within : l.at ≤ length l.bytes; skips : Skips l.least l.bytes l.at }

abbrev pub decreases-lanes : goal.decreases-lanes
decreases-lanes l = length l.bytes - l.at

abbrev pub invariant-bytes : goal.invariant-bytes
invariant-bytes l = record { within : l.at ≤ length l.bytes; skips : Skips l.least l.bytes l.at }

abbrev pub decreases-bytes : goal.decreases-bytes
decreases-bytes l = length l.bytes - l.at
