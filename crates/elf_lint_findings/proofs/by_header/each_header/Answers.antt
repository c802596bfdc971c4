use Rattle.std.proofs.Common.{ℕ, length, refl, rules, arith}
use Rattle.std.proofs.lemmas.Result.{err_from_is_err_and}
use Rattle.tool_objects.proofs.tool_output.UnderWayLemmas.{begins, goes_on, stops_at, is_given}
use Rattle.tool_objects.proofs.SectionLemmas.{ok_value_is}
use Rattle.elf_lint_findings.specs.declared.places.Place.TheVariants.{Section}
use Rattle.elf_lint_findings.specs.Findings.{at_sections, finding, found_if}
use Rattle.elf_lint_findings.proofs.FindingLemmas.{numbers_left, no_numbers_left}
use Rattle.elf_lint_findings.proofs.by_header.each_header.Goals as goal

pub loop-s-init : goal.loop-s-init
unfolding at_sections
loop-s-init g c =
    record { report = begins g.O.Sink g.E.Sink c.args.outputs.now _; keeps = search rules }

pub finds-holds-requires : goal.finds-holds-requires
finds-holds-requires g c =
    let count = ok_value_is _ _ c.shnum-s-end.ensures in omega (arith, count, c.loop-s-test.true)

pub loop-s-preserved : goal.loop-s-preserved
loop-s-preserved g c =
    let count = ok_value_is _ _ c.shnum-s-end.ensures in
    let o = c.args.elf.now.o in
    let finds = g.R.HeaderRule.finds c.args.rule.now o in
    let f = λ (s : ℕ). found_if (finds s) (finding c.args.number (Section s) c.args.text.now) in
    record {
      report = goes_on c.loop-s.invariant.report _ _
          (numbers_left c.args.name.now f (length o.sections) c.loop-s.s
          (omega (arith, count, c.loop-s-test.true)))
          (rw c.finds-holds.ensures at c.in_ok-was_found.ensures.reports) refl;
      keeps = search rules;
    }

pub returns-in_err-was_found-clause-reports : goal.returns-in_err-was_found-clause-reports
returns-in_err-was_found-clause-reports g c =
    let count = ok_value_is _ _ c.shnum-s-end.ensures in
    let o = c.args.elf.now.o in
    let finds = g.R.HeaderRule.finds c.args.rule.now o in
    let f = λ (s : ℕ). found_if (finds s) (finding c.args.number (Section s) c.args.text.now) in
    let p = err_from_is_err_and c.from_residual.result c.from_residual.ensures.1 in
    rw (p.1, p.2) (stops_at c.loop-s.invariant.report _ _
    (numbers_left c.args.name.now f (length o.sections) c.loop-s.s
    (omega (arith, count, c.loop-s-test.true)))
    (rw c.finds-holds.ensures at c.in_err-was_found.ensures.reports))

pub returns-clause-reports : goal.returns-clause-reports
returns-clause-reports g c =
    let count = ok_value_is _ _ c.shnum-s-end.ensures in
    let o = c.args.elf.now.o in
    let finds = g.R.HeaderRule.finds c.args.rule.now o in
    let f = λ (s : ℕ). found_if (finds s) (finding c.args.number (Section s) c.args.text.now) in
    is_given c.loop-s.invariant.report
    (no_numbers_left c.args.name.now f (length o.sections) c.loop-s.s
    (omega (arith, count, c.loop-s-test.false)))
