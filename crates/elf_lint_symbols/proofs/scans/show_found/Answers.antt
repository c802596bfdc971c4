use Rattle.std.proofs.Common.{false, List, ℕ, map, refl, rules, ap, ◌∙◌, subst, arith}
use Rattle.std.proofs.lemmas.Result.{err_from_is_err_and}
use Rattle.tool_output.specs.Reports.{UnderWay}
use Rattle.tool_output.proofs.UnderWayLemmas.{begins, goes_on, stops_at, is_given}
use Rattle.tool_objects.specs.AtHand.Items.{held_items}
use Rattle.elf_lint_findings.specs.Findings.{Finding, at_items, findings_shown}
use Rattle.elf_lint_symbols.proofs.ScanLemmas.{found_at, items_passing, next_left, none_left, none_behind, none_before}
use Rattle.elf_lint_symbols.proofs.scans.show_found.Goals as goal

pub loop-i-init : goal.loop-i-init
loop-i-init g c =
    let by = c.args.by.now in
    let s = by.section.0 in
    let holds = g.C.ItemTest.holds c.args.test.now in
    let items = held_items g.T.Listed.kind g.T.Listed.list_of c.args.items.now in
    let whole = findings_shown by.name.now (at_items by.number by.text.now s holds items) in
    record {
      report = subst
          (λ (l : List Finding). UnderWay g.O.Sink g.E.Sink false c.args.outputs.now
          c.args.outputs.now whole (findings_shown by.name.now l))
          (items_passing by.number by.text.now s holds items
          ∙ ap (λ (l : List ℕ). map (found_at by.number by.text.now s) l)
          (none_before holds c.args.span c.requires.within items))
          (begins g.O.Sink g.E.Sink c.args.outputs.now whole);
      keeps = search rules;
    }

pub next_found-requires-clause-late : goal.next_found-requires-clause-late
next_found-requires-clause-late g c =
    none_behind (g.C.ItemTest.holds c.args.test.now) c.args.span c.requires.within

pub loop-i-smaller : goal.loop-i-smaller
loop-i-smaller g c =
    let within = c.in-Some.ensures.within in omega (arith, within.0, within.1)

pub loop-i-preserved : goal.loop-i-preserved
loop-i-preserved g c =
    let by = c.args.by.now in
    let holds = g.C.ItemTest.holds c.args.test.now in
    let items = held_items g.T.Listed.kind g.T.Listed.list_of c.args.items.now in
    record {
      report = goes_on c.loop-i.invariant.report _ _
          (next_left by.number by.text.now by.section.0 holds by.name.now items c.loop-i.from
          c.in-Some.i c.in-Some.ensures.next)
          c.in_ok-was_found.ensures.reports refl;
      keeps = search rules;
    }

pub returns-in_err-was_found-clause-reports : goal.returns-in_err-was_found-clause-reports
returns-in_err-was_found-clause-reports g c =
    let by = c.args.by.now in
    let holds = g.C.ItemTest.holds c.args.test.now in
    let items = held_items g.T.Listed.kind g.T.Listed.list_of c.args.items.now in
    let p = err_from_is_err_and c.from_residual.result c.from_residual.ensures.1 in
    rw (p.1, p.2) (stops_at c.loop-i.invariant.report _ _
    (next_left by.number by.text.now by.section.0 holds by.name.now items c.loop-i.from
    c.in-Some.i c.in-Some.ensures.next)
    c.in_err-was_found.ensures.reports)

pub returns-clause-reports : goal.returns-clause-reports
returns-clause-reports g c =
    let by = c.args.by.now in
    let holds = g.C.ItemTest.holds c.args.test.now in
    let items = held_items g.T.Listed.kind g.T.Listed.list_of c.args.items.now in
    is_given c.loop-i.invariant.report
    (none_left by.number by.text.now by.section.0 holds by.name.now items c.loop-i.from
    c.in_default.ensures.next)
