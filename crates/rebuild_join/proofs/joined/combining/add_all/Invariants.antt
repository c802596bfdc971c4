use Rattle.rebuild_join.proofs.joined.AllLaws.{JoinsBelow}
use Rattle.rebuild_join.proofs.joined.combining.add_all.Given as goal

abbrev pub invariant-loop-s : goal.invariant-loop-s
invariant-loop-s g l =
    JoinsBelow g.S.Source g.T.Source l.initial.stripped l.stripped l.initial.debug l.debug
    l.initial.made l.made l.taken l.s
