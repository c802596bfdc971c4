use Rattle.std.proofs.Common.{◌≡◌, ◌≤◌, length, drop}
use Rattle.readelf_tables.specs.RowsOfSymbols.SymbolBytes.{symbol_rows}
use Rattle.readelf_tables.proofs.rows_of_symbols.symbol_bytes.write_rows.Given as goal

abbrev pub invariant-loop-i : goal.invariant-loop-i
invariant-loop-i l = record {
  inside : l.at ≤ length l.buffer;
  below : l.from ≤ l.i;
  within : l.i ≤ l.to;
  wrote : drop l.at l.buffer ≡ symbol_rows l.table l.i l.to;
}

abbrev pub decreases-loop-i : goal.decreases-loop-i
decreases-loop-i l = l.i
