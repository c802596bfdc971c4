use Rattle.std.proofs.Common.{◌+◌, false, drop}
use Rattle.tool_output.specs.Lines.{numbered_lines}
use Rattle.tool_output.specs.Reports.{shown_report, UnderWay}
use Rattle.tool_output.specs.Steps.{KeepsSinks}
use Rattle.lines_tool.specs.Rows.{file_line}
use Rattle.lines_tool.proofs.units.show_files.Given as goal

abbrev pub invariant-loop-i : goal.invariant-loop-i
invariant-loop-i g l = record {
  lines : UnderWay g.O.Sink g.E.Sink false l.initial.outputs l.outputs
      (shown_report (numbered_lines (λ i name. file_line (i + 1) name) 0 l.files)) (shown_report (numbered_lines (λ i name. file_line (i + 1) name) l.i (drop l.i l.files)));
  keeps : KeepsSinks g.O.Sink g.E.Sink l.initial.outputs l.outputs;
}
