use Rattle.std.proofs.Common.{◌≡◌, ◌-◌, ◌<◌, ◌≤◌, drop, get_or, length, ap, ◌∙◌, arith}
use Rattle.std.proofs.lemmas.List.{get_or_default, length-take, length-drop}
use Rattle.nm_tool.specs.declared.kept.Kept.{Kept}
use Rattle.nm_tool.specs.Kept.{shown_name_in}
use Rattle.nm_tool.proofs.Ranking.{shown_small}
use Rattle.nm_tool.proofs.Runs.{runs_begin, runs_next, runs_all, parted_next}
use Rattle.nm_tool.proofs.ranked.+sort_named.Goals as goal

pub loop-at-init : goal.loop-at-init
loop-at-init t c = runs_begin (shown_name_in c.args.strings.now) c.sort_by_keys.new.rows

pub loop-at-preserved-then-are_compared : goal.loop-at-preserved-then-are_compared
loop-at-preserved-then-are_compared t c =
    let name_of = shown_name_in c.args.strings.now in
    let small = shown_small c.args.strings.now c.requires in
    let old = c.sort_by_keys.new.rows in
    let new = c.loop-at.rows in
    let at = c.loop-at.at in
    let end = c.run_end-end.result in
    let runs = c.loop-at.invariant in
    let none : Kept = record { key = 0; index = 0; name = 0 } in
    let here : at < length new =
    omega (arith, c.loop-at-test.true, runs.long) in
    let some : at < end = omega (arith, c.run_end-end.ensures.above) in
    let inside : end ≤ length old = omega (arith, c.run_end-end.ensures.within, runs.long) in
    let sized : length c.sort_few.new.rows ≡ end - at =
    omega (
      arith,
      c.sort_few.auto.rows,
      length-take (end - at) (drop at new),
      length-drop at new,
      inside,
      runs.long,
      some,
    ) in
    runs_next name_of small old new c.sort_few.new.rows at end c.sort_by_keys.ensures.keyed runs some
    inside sized c.sort_few.ensures
    (parted_next old new at end (get_or new at none).key some c.sort_by_keys.ensures.rises
    runs.long runs.rest
    (λ d. ap (λ (k : Kept). k.key) (get_or_default new at d none here))
    c.run_end-end.ensures.same c.run_end-end.ensures.other runs.parted)

pub loop-at-preserved : goal.loop-at-preserved
loop-at-preserved t c =
    let name_of = shown_name_in c.args.strings.now in
    let small = shown_small c.args.strings.now c.requires in
    let old = c.sort_by_keys.new.rows in
    let new = c.loop-at.rows in
    let at = c.loop-at.at in
    let end = c.run_end-end.result in
    let runs = c.loop-at.invariant in
    let none : Kept = record { key = 0; index = 0; name = 0 } in
    let here : at < length new =
    omega (arith, c.loop-at-test.true, runs.long) in
    let some : at < end = omega (arith, c.run_end-end.ensures.above) in
    let inside : end ≤ length old = omega (arith, c.run_end-end.ensures.within, runs.long) in
    let sized : length c.sort_named.new.rows ≡ end - at =
    omega (
      arith,
      c.sort_named.auto.rows,
      length-take (end - at) (drop at new),
      length-drop at new,
      inside,
      runs.long,
      some,
    ) in
    runs_next name_of small old new c.sort_named.new.rows at end c.sort_by_keys.ensures.keyed runs some
    inside sized c.sort_named.ensures
    (parted_next old new at end (get_or new at none).key some c.sort_by_keys.ensures.rises
    runs.long runs.rest
    (λ d. ap (λ (k : Kept). k.key) (get_or_default new at d none here))
    c.run_end-end.ensures.same c.run_end-end.ensures.other runs.parted)

pub returns : goal.returns
returns t c =
    runs_all (shown_name_in c.args.strings.now) c.sort_by_keys.new.rows c.loop-at.rows c.loop-at.at
    c.loop-at.invariant (omega (arith, c.loop-at-test.false)) ∙ c.sort_by_keys.ensures.moved
