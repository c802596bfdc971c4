use Rattle.std.proofs.lemmas.Result.{err_from_is_err_and}
use Rattle.tool_objects.proofs.SectionLemmas.{ok_value_is}
use Rattle.tool_output.proofs.ReportLemmas.{reports_stop, shown_then}
use Rattle.readelf_headers.specs.Segments.{segments_report}
use Rattle.readelf_headers.proofs.segments.show_segments.Goals as goal

pub returns-in_err-show-clause-reports : goal.returns-in_err-show-clause-reports
unfolding segments_report
returns-in_err-show-clause-reports g c =
    let p = err_from_is_err_and c.from_residual.result c.from_residual.ensures.1 in
    rw (p.1, p.2, ← ok_value_is _ _ c.phnum-count.ensures) (reports_stop g.O.Sink g.E.Sink c.args.outputs.now _ _ _ _ c.in_err-show.ensures.reports)

pub returns-clause-reports : goal.returns-clause-reports
unfolding segments_report
returns-clause-reports g c =
    rw (← ok_value_is _ _ c.phnum-count.ensures) (shown_then g.O.Sink g.E.Sink _ c.args.outputs.now _ _ _ _ _ c.in_ok-show.ensures.reports c.show_lines.ensures.reports)
