use Rattle.std.proofs.Common.{false}
use Rattle.tool_output.specs.Reports.{shown_report, UnderWay}
use Rattle.tool_output.specs.Steps.{KeepsSinks}
use Rattle.readelf_tables.specs.RowsOfSymbols.SymbolBytes.{symbol_rows}
use Rattle.readelf_tables.proofs.rows_of_symbols.symbol_bytes.show_one_by_one.Given as goal

abbrev pub invariant-loop-i : goal.invariant-loop-i
invariant-loop-i g l = record {
  lines : UnderWay g.O.Sink g.E.Sink false l.initial.outputs l.outputs
      (shown_report (symbol_rows l.table l.from l.to)) (shown_report (symbol_rows l.table l.i l.to));
  keeps : KeepsSinks g.O.Sink g.E.Sink l.initial.outputs l.outputs;
}
