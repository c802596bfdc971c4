use Rattle.std.proofs.Common.{false, drop, ◌-◌}
use Rattle.tool_output.specs.Lines.{numbered_lines}
use Rattle.tool_output.specs.Reports.{shown_report, UnderWay}
use Rattle.tool_output.specs.Steps.{KeepsSinks}
use Rattle.readelf_tables.specs.RowsOfSymbols.SymbolBytes.{bytes_row, symbols_of_bytes}
use Rattle.readelf_tables.proofs.rows_of_symbols.symbol_bytes.show_blocks.Given as goal

abbrev pub invariant-loop-from : goal.invariant-loop-from
invariant-loop-from g l = record {
  lines : UnderWay g.O.Sink g.E.Sink false l.initial.outputs l.outputs
      (shown_report (numbered_lines (bytes_row l.table.strings.now) 0 (symbols_of_bytes l.table)))
      (shown_report (numbered_lines (bytes_row l.table.strings.now) l.from (drop l.from (symbols_of_bytes l.table))));
  keeps : KeepsSinks g.O.Sink g.E.Sink l.initial.outputs l.outputs;
}

abbrev pub decreases-loop-from : goal.decreases-loop-from
decreases-loop-from g l = l.count - l.from
