use Rattle.std.proofs.lemmas.Result.{err_from_is_err_and}
use Rattle.tool_output.proofs.ReportLemmas.{reports_stop, shown_then}
use Rattle.lines_tool.specs.Tables.{unit_report}
use Rattle.lines_tool.proofs.units.show_unit.Goals as goal

pub returns-in_err-show-clause-reports : goal.returns-in_err-show-clause-reports
unfolding unit_report
returns-in_err-show-clause-reports g c =
    let p = err_from_is_err_and c.from_residual.result c.from_residual.ensures.1 in
    rw (p.1, p.2) (reports_stop g.O.Sink g.E.Sink c.args.outputs.now _ _ _ _ c.in_err-show.ensures.reports)

pub returns-in_err-show_files-clause-reports : goal.returns-in_err-show_files-clause-reports
unfolding unit_report
returns-in_err-show_files-clause-reports g c =
    let p = err_from_is_err_and c.from_residual-in_err-show_files.result c.from_residual-in_err-show_files.ensures.1 in
    let files = reports_stop g.O.Sink g.E.Sink _ _ _ _ _ (rw c.as_slice.ensures at c.in_err-show_files.ensures.reports) in
    rw (p.1, p.2) (shown_then g.O.Sink g.E.Sink _ c.args.outputs.now _ _ _ _ _ c.in_ok-show.ensures.reports files)

pub returns-clause-reports : goal.returns-clause-reports
unfolding unit_report
returns-clause-reports g c =
    shown_then g.O.Sink g.E.Sink _ c.args.outputs.now _ _ _ _ _ c.in_ok-show.ensures.reports
    (shown_then g.O.Sink g.E.Sink _ _ _ _ _ _ _ (rw c.as_slice.ensures at c.in_ok-show_files.ensures.reports) (rw c.as_slice-2.ensures at c.show_rows.ensures.reports))
