use Rattle.std.proofs.Common.{ℕ, refl, rules, arith}
use Rattle.std.proofs.lemmas.Result.{err_from_is_err_and}
use Rattle.elf_types.specs.declared.records.Phdr.{Phdr}
use Rattle.tool_objects.proofs.tool_output.UnderWayLemmas.{begins, goes_on, stops_at, is_given}
use Rattle.tool_objects.proofs.SectionLemmas.{ok_value_is}
use Rattle.elf_lint_findings.specs.declared.places.Place.TheVariants.{Segment}
use Rattle.elf_lint_findings.specs.Findings.{at_segments, finding, found_if}
use Rattle.elf_lint_findings.proofs.FindingLemmas.{rows_left, no_rows_left}
use Rattle.elf_lint_findings.proofs.by_segment.each_segment.Goals as goal

pub loop-i-init : goal.loop-i-init
unfolding at_segments
loop-i-init g c = record { report = begins g.O.Sink g.E.Sink c.args.outputs.now _; keeps = search rules }

pub loop-i-preserved : goal.loop-i-preserved
loop-i-preserved g c =
    let count = ok_value_is _ _ c.phnum-i-end.ensures in
    let r = g.R.SegmentRule in
    let o = c.args.elf.now.o in
    let f = λ (row : ℕ × Phdr). found_if (r.finds o row.1) (finding c.args.number (Segment row.0) c.args.text.now) in
    record {
      report = goes_on c.loop-i.invariant.report _ _ (rows_left c.args.name.now f o.phdrs c.loop-i.i _ (omega (arith, count, c.loop-i-test.true)) c.phdr_at.ensures)
          (rw c.finds-holds.ensures at c.in_ok-was_found.ensures.reports) refl;
      keeps = search rules;
    }

pub returns-in_err-was_found-clause-reports : goal.returns-in_err-was_found-clause-reports
returns-in_err-was_found-clause-reports g c =
    let count = ok_value_is _ _ c.phnum-i-end.ensures in
    let r = g.R.SegmentRule in
    let o = c.args.elf.now.o in
    let f = λ (row : ℕ × Phdr). found_if (r.finds o row.1) (finding c.args.number (Segment row.0) c.args.text.now) in
    let p = err_from_is_err_and c.from_residual.result c.from_residual.ensures.1 in
    rw (p.1, p.2) (stops_at c.loop-i.invariant.report _ _ (rows_left c.args.name.now f o.phdrs c.loop-i.i _ (omega (arith, count, c.loop-i-test.true)) c.phdr_at.ensures)
    (rw c.finds-holds.ensures at c.in_err-was_found.ensures.reports))

pub returns-clause-reports : goal.returns-clause-reports
returns-clause-reports g c =
    let count = ok_value_is _ _ c.phnum-i-end.ensures in
    let r = g.R.SegmentRule in
    let o = c.args.elf.now.o in
    let f = λ (row : ℕ × Phdr). found_if (r.finds o row.1) (finding c.args.number (Segment row.0) c.args.text.now) in
    is_given c.loop-i.invariant.report (no_rows_left c.args.name.now f o.phdrs c.loop-i.i (omega (arith, count, c.loop-i-test.false)))
