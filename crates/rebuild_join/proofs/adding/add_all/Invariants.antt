use Rattle.rebuild_join.proofs.AddLaws.{JoinedBelow}
use Rattle.rebuild_join.proofs.adding.add_all.Given as goal

abbrev pub invariant-loop-s : goal.invariant-loop-s
invariant-loop-s g l = JoinedBelow l.stripped l.debug l.contents l.taken l.s
