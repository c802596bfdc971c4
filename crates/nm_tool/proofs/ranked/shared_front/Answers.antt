use Rattle.std.proofs.Common.{List, ℕ, drop, sym, subst}
use Rattle.nm_tool.specs.Ranked.{HasNoNul}
use Rattle.nm_tool.proofs.NameFronts.{name_plain}
use Rattle.nm_tool.proofs.ranked.shared_front.Goals as goal

pub shared_with-requires : goal.shared_with-requires
shared_with-requires c = subst HasNoNul (sym c.name_at.ensures) (name_plain _)

pub returns-in-Some-clause-shares : goal.returns-in-Some-clause-shares
returns-in-Some-clause-shares c = (c.name_at.result.now, c.shared_with.ensures.shares)
