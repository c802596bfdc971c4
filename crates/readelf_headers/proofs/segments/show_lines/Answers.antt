use Rattle.std.proofs.Common.{rules, arith}
use Rattle.std.proofs.lemmas.Result.{err_from_is_err_and}
use Rattle.tool_output.proofs.UnderWayLemmas.{begins, line_shown, stops_at, is_given, lines_left, no_lines_left}
use Rattle.tool_objects.proofs.SectionLemmas.{ok_value_is}
use Rattle.readelf_headers.specs.Segments.{phdr_line}
use Rattle.readelf_headers.proofs.segments.show_lines.Goals as goal

pub loop-i-init : goal.loop-i-init
loop-i-init g c = record { lines = begins g.O.Sink g.E.Sink c.args.outputs.now _; keeps = search rules }

pub loop-i-preserved : goal.loop-i-preserved
loop-i-preserved g c =
    let count = ok_value_is _ _ c.phnum-i-end.ensures in
    record {
      lines = line_shown c.loop-i.invariant.lines _ _ (lines_left phdr_line c.args.elf.now.o.phdrs c.loop-i.i _ (omega (arith, count, c.loop-i-test.true)) c.phdr_at.ensures)
          c.in_ok-show.ensures.reports;
      keeps = search rules;
    }

pub returns-in_err-show-clause-reports : goal.returns-in_err-show-clause-reports
returns-in_err-show-clause-reports g c =
    let count = ok_value_is _ _ c.phnum-i-end.ensures in
    let p = err_from_is_err_and c.from_residual.result c.from_residual.ensures.1 in
    rw (p.1, p.2) (stops_at c.loop-i.invariant.lines _ _ (lines_left phdr_line c.args.elf.now.o.phdrs c.loop-i.i _ (omega (arith, count, c.loop-i-test.true)) c.phdr_at.ensures)
    c.in_err-show.ensures.reports)

pub returns-clause-reports : goal.returns-clause-reports
returns-clause-reports g c =
    let count = ok_value_is _ _ c.phnum-i-end.ensures in
    is_given c.loop-i.invariant.lines (no_lines_left phdr_line c.args.elf.now.o.phdrs c.loop-i.i (omega (arith, count, c.loop-i-test.false)))
