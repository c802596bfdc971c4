use Rattle.std.proofs.Common.{take, drop, length}
use Rattle.std.proofs.lemmas.Bool.Decides.{Decides-eqb}
use Rattle.std.proofs.lemmas.Slice.Eq.{starts_is}
use Rattle.nm_tool.proofs.Ranking.{begins_shared}
use Rattle.nm_tool.proofs.ranked.shared_within.Goals as goal

pub returns-then-starts_with-clause-shares : goal.returns-then-starts_with-clause-shares
returns-then-starts_with-clause-shares c =
    let first = c.args.first.now in
    let name = c.args.name.now in
    let front = take c.args.count first in
    begins_shared first name (drop (length front) name) c.args.count c.requires
    ((starts_is Decides-eqb name front c.starts_with.result c.starts_with.ensures.value).0
    c.if-starts_with.true)
