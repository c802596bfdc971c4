use Rattle.rebuild_keep.specs.rebuild_model.Split.{same_phdr}
use Rattle.rebuild_join.proofs.joined.MatchLaws.{RestTells}
use Rattle.rebuild_join.proofs.joined.matching.same_segments.Given as goal

abbrev pub invariant-loop-i : goal.invariant-loop-i
invariant-loop-i g l = RestTells same_phdr l.stripped.o.phdrs l.debug.o.phdrs l.i
