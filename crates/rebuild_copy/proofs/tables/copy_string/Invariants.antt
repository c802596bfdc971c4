use Rattle.std.proofs.Common.{◌<◌, ◌-◌}
use Rattle.rebuild_copy.proofs.tables.copy_string.Given as goal

abbrev pub invariant-loop-count : goal.invariant-loop-count
invariant-loop-count l = 0 < l.count

abbrev pub decreases-loop-count : goal.decreases-loop-count
decreases-loop-count l = l.most - l.count
