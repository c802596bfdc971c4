use Rattle.std.proofs.Common.{false, drop}
use Rattle.tool_output.specs.Reports.{shown_report, reports_of, UnderWay}
use Rattle.tool_output.specs.Steps.{KeepsSinks}
use Rattle.lines_tool.specs.Rows.{row_line}
use Rattle.lines_tool.proofs.units.show_rows.Given as goal

abbrev pub invariant-loop-row : goal.invariant-loop-row
invariant-loop-row g l = record {
  lines : UnderWay g.O.Sink g.E.Sink false l.initial.outputs l.outputs
      (reports_of (λ r. shown_report (row_line r)) l.rows) (reports_of (λ r. shown_report (row_line r)) (drop l.row-index l.rows));
  keeps : KeepsSinks g.O.Sink g.E.Sink l.initial.outputs l.outputs;
}
