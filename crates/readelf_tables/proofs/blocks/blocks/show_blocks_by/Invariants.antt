use Rattle.std.proofs.Common.{false, drop, ◌*◌}
use Rattle.tool_output.specs.Lines.{numbered_lines}
use Rattle.tool_output.specs.Reports.{shown_report, UnderWay}
use Rattle.tool_output.specs.Steps.{KeepsSinks}
use Rattle.readelf_tables.specs.Blocks.Blocks.{table_row, relocations_in_bytes}
use Rattle.readelf_tables.proofs.blocks.blocks.show_blocks_by.Given as goal

abbrev pub invariant-loop-block : goal.invariant-loop-block
invariant-loop-block g l = record {
  lines : UnderWay g.O.Sink g.E.Sink false l.initial.outputs l.outputs
      (shown_report (numbered_lines (table_row g.T.Relocation.entry_of l.table) 0 (relocations_in_bytes g.T.Listed.kind g.T.Listed.list_of l.table)))
      (shown_report (numbered_lines (table_row g.T.Relocation.entry_of l.table) (l.block * 64) (drop (l.block * 64) (relocations_in_bytes g.T.Listed.kind g.T.Listed.list_of l.table))));
  keeps : KeepsSinks g.O.Sink g.E.Sink l.initial.outputs l.outputs;
}
