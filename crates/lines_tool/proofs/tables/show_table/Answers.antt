use Rattle.std.proofs.lemmas.Result.{err_from_is_err_and}
use Rattle.tool_output.proofs.ReportLemmas.{reports_stop, shown_then}
use Rattle.lines_tool.specs.Tables.{line_table_report}
use Rattle.lines_tool.proofs.tables.show_table.Goals as goal

pub returns-in_err-show-clause-reports : goal.returns-in_err-show-clause-reports
unfolding line_table_report
returns-in_err-show-clause-reports g c =
    let p = err_from_is_err_and c.from_residual.result c.from_residual.ensures.1 in
    rw (p.1, p.2) (reports_stop g.O.Sink g.E.Sink c.args.outputs.now _ _ _ _ c.in_err-show.ensures.reports)

pub returns-clause-reports : goal.returns-clause-reports
unfolding line_table_report
returns-clause-reports g c =
    shown_then g.O.Sink g.E.Sink _ c.args.outputs.now _ _ _ _ _ c.in_ok-show.ensures.reports c.show_units.ensures.reports
