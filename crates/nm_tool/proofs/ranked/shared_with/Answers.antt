use Rattle.std.proofs.Common.{arith}
use Rattle.nm_tool.proofs.ranked.shared_with.Goals as goal

pub returns-then-count-eq0-clause-shares : goal.returns-then-count-eq0-clause-shares
returns-then-count-eq0-clause-shares c = λ i d lt m none. absurd (omega (arith, none))
