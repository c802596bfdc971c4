use Rattle.std.proofs.Common.{false, drop}
use Rattle.tool_output.specs.Lines.{numbered_lines}
use Rattle.tool_output.specs.Reports.{shown_report, UnderWay}
use Rattle.tool_output.specs.Steps.{KeepsSinks}
use Rattle.readelf_tables.specs.Blocks.Blocks.{line_row}
use Rattle.readelf_tables.proofs.blocks.blocks.show_one_by_one.Given as goal

abbrev pub invariant-loop-i : goal.invariant-loop-i
invariant-loop-i g l = record {
  lines : UnderWay g.O.Sink g.E.Sink false l.initial.outputs l.outputs (shown_report (numbered_lines line_row 0 l.lines)) (shown_report (numbered_lines line_row l.i (drop l.i l.lines)));
  keeps : KeepsSinks g.O.Sink g.E.Sink l.initial.outputs l.outputs;
}
