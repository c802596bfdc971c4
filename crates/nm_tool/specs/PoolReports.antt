-- What is said of a row that is sorted, and of the symbols of a pool.
use Rattle.std.specs.Prelude.{ℕ}
use Rattle.elf_object.specs.Object.{Object}
use Rattle.nm_tool.specs.declared.options.NmOptions.{NmOptions}
use Rattle.tool_output.specs.Names.{Name}
use Rattle.tool_output.specs.Reports.{Report}
use Rattle.nm_tool.specs.declared.order.SymbolSortRow.{SymbolSortRow}
use Rattle.nm_tool.specs.declared.pools.Pool.{Pool}
use Rattle.nm_tool.specs.Pools.{spot_entries}
use Rattle.nm_tool.specs.Tool.{symbol_entry_report, symbol_entries_report}

unfoldable pub row_report : NmOptions → Name → Object → ℕ → SymbolSortRow → Report
row_report options file o s r = symbol_entry_report options file o s r.index r.name.now

unfoldable pub pool_report : NmOptions → Name → Object → ℕ → Pool → Report
pool_report options file o s pool =
    symbol_entries_report options file o s (spot_entries options.by_value pool.names pool.spots)
