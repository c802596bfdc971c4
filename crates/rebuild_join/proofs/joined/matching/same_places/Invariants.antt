use Rattle.rebuild_join.proofs.joined.MatchLaws.{RestTells, alike}
use Rattle.rebuild_join.proofs.joined.matching.same_places.Given as goal

abbrev pub invariant-loop-i : goal.invariant-loop-i
invariant-loop-i g l = RestTells (alike l.stripped.o l.debug.o) l.loaded l.others l.i
