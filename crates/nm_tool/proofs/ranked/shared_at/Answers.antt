use Rattle.std.proofs.Common.{ℕ, List, take, drop, length, ap, ◌∙◌, sym, subst}
use Rattle.std.proofs.lemmas.Bool.Decides.{Decides-eqb}
use Rattle.std.proofs.lemmas.Slice.Eq.{starts_is}
use Rattle.elf_object.specs.Strings.{has_nul}
use Rattle.nm_tool.specs.Ranked.{SharesFront}
use Rattle.nm_tool.specs.Listed.{name_or_none}
use Rattle.tool_objects.specs.gelf_view.Records.{string_front}
use Rattle.nm_tool.proofs.NameFronts.{front_shared}
use Rattle.nm_tool.proofs.ranked.shared_at.Goals as goal

pub returns-then-starts_with-clause-shares : goal.returns-then-starts_with-clause-shares
returns-then-starts_with-clause-shares c =
    let first = c.args.first.now in
    let rest = c.rest_of-rest.result.now in
    let front = take c.args.count first in
    subst (λ (l : List ℕ). SharesFront c.args.count first (name_or_none (string_front l))) c.rest_of-rest.ensures
    (front_shared first rest c.args.count c.requires.count c.requires.plain (c.is_ended.ensures c.if-is_ended.true) (drop (length front) rest)
    ((starts_is Decides-eqb rest front c.starts_with.result c.starts_with.ensures.value).0 c.if-starts_with.true))
