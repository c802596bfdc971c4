-- The text before the name of a symbol.
use Rattle.std.specs.Prelude.{◌++◌, ℕ, List, Option, codes}
use Rattle.elf_types.specs.declared.records.Sym.{Sym}
use Rattle.tool_objects.specs.gelf_view.declared.symbols.SymPlace.{SymPlace}
use Rattle.readelf_tables.specs.RowsOfSymbols.SymbolLines.{symbol_start, symbol_names, place_text}

-- what stands before the name of a symbol, and then the text with which that is opened
unfoldable pub symbol_front : ℕ → Sym → Option SymPlace → List ℕ → List ℕ
symbol_front i x place opening =
    symbol_start i x ++ (symbol_names x ++ (codes " shndx " ++ (place_text x place ++ opening)))
