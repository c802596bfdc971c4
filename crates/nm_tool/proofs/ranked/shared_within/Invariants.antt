use Rattle.nm_tool.specs.Ranked.{SharesFront}
use Rattle.nm_tool.proofs.ranked.shared_within.Given as goal

abbrev pub invariant-loop-i : goal.invariant-loop-i
invariant-loop-i l = SharesFront l.i l.first l.name
