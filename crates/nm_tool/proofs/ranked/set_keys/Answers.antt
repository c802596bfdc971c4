use Rattle.std.proofs.Common.{◌<◌, ℕ, List, length, ap, ◌∙◌, arith}
use Rattle.nm_tool.specs.declared.kept.Kept.{Kept}
use Rattle.nm_tool.specs.Kept.{shown_name_in}
use Rattle.nm_tool.specs.Ranked.{keyed, number_from}
use Rattle.nm_tool.proofs.Ranking.{same_kept, changed_more}
use Rattle.nm_tool.proofs.ranked.set_keys.Goals as goal

pub loop-k-preserved : goal.loop-k-preserved
loop-k-preserved c =
    let i = c.loop-k.k-index in
    let rows = c.args.rows.now in
    let place = c.args.place in
    let none : Kept = record { key = 0; index = 0; name = 0 } in
    let inside : i < length rows = omega (arith, c.loop-k-test.true, c.loop-k.auto.rows) in
    let within : i < length c.loop-k.rows =
    omega (arith, c.loop-k-test.true, c.loop-k.auto.rows) in
    changed_more (keyed (shown_name_in c.args.strings.now) place) rows c.loop-k.rows i none _ inside
    within c.loop-k.invariant
    (same_kept _ _ _ _
    (c.key_from-k.ensures ∙ ap (λ (l : List ℕ). number_from place 8 l) c.name_at.ensures))
