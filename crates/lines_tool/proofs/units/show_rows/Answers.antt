use Rattle.std.proofs.Common.{rules}
use Rattle.std.proofs.lemmas.Result.{err_from_is_err_and}
use Rattle.tool_output.specs.Reports.{shown_report}
use Rattle.tool_output.proofs.UnderWayLemmas.{begins, line_shown, stops_at, is_given, reports_left, no_reports_left}
use Rattle.lines_tool.specs.Rows.{row_line}
use Rattle.lines_tool.proofs.units.show_rows.Goals as goal

pub loop-row-init : goal.loop-row-init
loop-row-init g c = record { lines = begins g.O.Sink g.E.Sink c.args.outputs.now _; keeps = search rules }

pub loop-row-preserved : goal.loop-row-preserved
loop-row-preserved g c = record {
  lines = line_shown c.loop-row.invariant.lines _ _ (reports_left (λ r. shown_report (row_line r)) c.args.rows.now c.loop-row.row-index _ c.loop-row-test.true (search rules))
      c.in_ok-show.ensures.reports;
  keeps = search rules;
}

pub returns-in_err-show-clause-reports : goal.returns-in_err-show-clause-reports
returns-in_err-show-clause-reports g c =
    let p = err_from_is_err_and c.from_residual.result c.from_residual.ensures.1 in
    rw (p.1, p.2) (stops_at c.loop-row.invariant.lines _ _ (reports_left (λ r. shown_report (row_line r)) c.args.rows.now c.loop-row.row-index _ c.loop-row-test.true (search rules))
    c.in_err-show.ensures.reports)

pub returns-clause-reports : goal.returns-clause-reports
returns-clause-reports g c = is_given c.loop-row.invariant.lines (no_reports_left (λ r. shown_report (row_line r)) c.args.rows.now c.loop-row.row-index c.loop-row-test.false)
