use Rattle.std.proofs.Common.{ℕ, List, take, drop, ap, ◌∙◌}
use Rattle.std.specs.Int.{from_be_bytes, w64}
use Rattle.std.proofs.lemmas.List.{get_or-take, get_or-drop}
use Rattle.nm_tool.proofs.Keys.{number_is}
use Rattle.nm_tool.proofs.ranked.key_from.Goals as goal

pub returns-in-Some : goal.returns-in-Some
returns-in-Some c =
    let place = c.args.place in
    let name = c.args.name.now in
    c.in-Some.ensures ∙ ap (λ (l : List ℕ). from_be_bytes w64 (take 8 l)) c.rest_of.ensures
    ∙ number_is place name (take 8 (drop place name))
    (λ i lt. get_or-take 8 (drop place name) i 0 lt ∙ get_or-drop place name i 0)
