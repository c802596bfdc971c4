-- The rows of a table of symbols of which the bytes are at hand, and those of its strings, and which
-- has no extended indexes.
use Rattle.std.specs.Prelude.{◌≡◌, ◌-◌, ◌==◌, ℕ, nat_lt, List, take, drop, Option, Some, None, if◌then◌else◌}
use Rattle.elf_types.specs.declared.records.Kind.TheVariants as kinds
use Rattle.elf_types.specs.declared.records.Sym.{Sym}
use Rattle.elf_types.specs.declared.constants.TheConstants.{SHN_LORESERVE, SHN_XINDEX}
use Rattle.elf_object.specs.Answers.{syms_of}
use Rattle.tool_output.specs.Lines.{numbered_lines}
use Rattle.tool_objects.specs.elf_descriptor.State.{State}
use Rattle.tool_objects.specs.gelf_view.Records.{string_front}
use Rattle.tool_objects.specs.gelf_view.declared.symbols.SymPlace.{SymPlace}
use Rattle.tool_objects.specs.gelf_view.declared.symbols.SymPlace.TheVariants.{Special, Section}
use Rattle.tool_objects.specs.AtHand.Items.{AreSectionItems, held_items}
use Rattle.tool_objects.specs.AtHand.Strings.{HoldsStrings}
use Rattle.readelf_rows.specs.declared.links.ItemTable.{ItemTable}
use Rattle.readelf_tables.specs.RowsOfSymbols.SymbolLines.{symbol_line}
use Rattle.readelf_tables.specs.declared.rows_of_symbols.symbol_bytes.SymbolBytes.{SymbolBytes}

-- the section of a symbol by its index alone (gABI chapter 4, "Symbol Table", st_shndx): an extended
-- index can not be told
unfoldable pub plain_place : ℕ → Option SymPlace
plain_place shndx =
    if nat_lt shndx SHN_LORESERVE then Some (Section shndx)
    else (if shndx == SHN_XINDEX then None else Some (Special shndx))

-- the row of a symbol, with the name that the bytes of the strings hold
abbrev pub bytes_row : List ℕ → ℕ → Sym → List ℕ
bytes_row strings i x =
    symbol_line i x (plain_place x.shndx) (string_front (drop x.name strings))

-- the symbols of a table
abbrev pub symbols_of_bytes : SymbolBytes → List Sym
symbols_of_bytes t = held_items kinds.Sym syms_of t.symbols

-- the rows of those from one index on and below another
abbrev pub symbol_rows : SymbolBytes → ℕ → ℕ → List ℕ
symbol_rows t from to =
    numbered_lines (bytes_row t.strings.now) from
    (take (to - from) (drop from (symbols_of_bytes t)))

-- they are those of a section without extended indexes, and the strings those of the linked one
pub record AreSymbolBytes {S : Type 0} (state : State S) (table : ItemTable) (t : SymbolBytes)
    : Type 0 where
  pub plain : table.links.indexes ≡ None
  pub symbols : AreSectionItems kinds.Sym syms_of state table.section.0 t.symbols
  pub names : HoldsStrings state table.links.linked.0 t.strings.now
