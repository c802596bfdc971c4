use Rattle.std.proofs.Common.{◌-◌}
use Rattle.nm_tool.specs.Kept.{shown_name_in}
use Rattle.nm_tool.proofs.Runs.{RunsDone}
use Rattle.nm_tool.proofs.ranked.+sort_named.Given as goal

abbrev pub decreases-sort_named : goal.decreases-sort_named
decreases-sort_named l = l.levels

abbrev pub invariant-loop-at : goal.invariant-loop-at
invariant-loop-at l = RunsDone (shown_name_in l.strings) l.initial.rows l.rows l.at

abbrev pub decreases-loop-at : goal.decreases-loop-at
decreases-loop-at l = l.count - l.at
