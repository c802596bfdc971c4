use Rattle.std.proofs.Common.{◌-◌}
use Rattle.ar_members.proofs.WalkLemmas.{Walked}
use Rattle.ar_members.proofs.walk.walk.Given as goal

abbrev pub invariant-loop-at : goal.invariant-loop-at
invariant-loop-at g l = Walked g.S.Source l.place l.names l.initial.src l.src l.met l.at

abbrev pub decreases-loop-at : goal.decreases-loop-at
decreases-loop-at g l = l.size - l.at
