-- What nm says of an object.
use Rattle.std.specs.Prelude.{ℕ, List, slice_get, Option, Some, None, codes}
use Rattle.elf_types.specs.declared.records.Sym.{Sym}
use Rattle.elf_types.specs.declared.records.Kind.TheVariants as kinds
use Rattle.elf_types.specs.declared.errors.ElfError.{ElfError}
use Rattle.elf_types.specs.Text.{error_text}
use Rattle.elf_object.specs.Object.{Object}
use Rattle.elf_object.specs.Answers.{lend_refusal}
use Rattle.nm_tool.specs.declared.options.NmOptions.{NmOptions}
use Rattle.tool_output.specs.Names.{Name}
use Rattle.tool_output.specs.Reports.{Report, no_report, shown_report, noted, refusal_report, reports_of}
use Rattle.tool_objects.specs.Symbols.{told_symbol_place}
use Rattle.nm_tool.specs.Letters.{is_undefined, symbol_letter}
use Rattle.tool_objects.specs.gelf_view.declared.symbols.SymPlace.{SymPlace}
use Rattle.nm_tool.specs.Rows.{row_text}
use Rattle.nm_tool.specs.Order.{SymbolEntry, entries_in_order}
use Rattle.nm_tool.specs.Listed.{symbol_table, symbols_in_table, listed_entries}

-- the row of a symbol whose place is this, and whose name is shown as this
unfoldable pub placed_row : NmOptions → Name → Object → Sym → Option SymPlace → List ℕ → List ℕ
placed_row options file o x place name =
    row_text options o.header.class file (is_undefined place) x (symbol_letter o x place) name

-- that of symbol i
unfoldable pub listed_symbol_row : NmOptions → Name → Object → ℕ → ℕ → List ℕ → Sym → List ℕ
listed_symbol_row options file o s i name x =
    placed_row options file o x (told_symbol_place o s i x) name

abbrev pub symbol_report : NmOptions → Name → Object → ℕ → ℕ → List ℕ → Option Sym → Report
symbol_report options file o s i name None = no_report
symbol_report options file o s i name (Some x) =
    shown_report (listed_symbol_row options file o s i name x)

unfoldable pub symbol_entry_report : NmOptions → Name → Object → ℕ → ℕ → List ℕ → Report
symbol_entry_report options file o s i name =
    symbol_report options file o s i name (slice_get (symbols_in_table o s) i)

-- a row for each of some entries, in their order
unfoldable pub symbol_entries_report : NmOptions → Name → Object → ℕ → List SymbolEntry → Report
symbol_entries_report options file o s entries =
    reports_of (λ (e : SymbolEntry). symbol_entry_report options file o s e.index e.name)
    (entries_in_order entries)

-- a row for each symbol that is listed
unfoldable pub rows_report : NmOptions → Name → Object → ℕ → Report
rows_report options file o s = symbol_entries_report options file o s (listed_entries options o s)

-- they stand in a table that can be told
unfoldable pub table_report : NmOptions → Name → Object → ℕ → Option ElfError → Report
table_report options file o s None = rows_report options file o s
table_report options file o s (Some e) = refusal_report (codes "nm") file (error_text e)

-- an object without symbols has a message, and is not refused for it
unfoldable pub listing_report : NmOptions → Name → Object → Option ℕ → Report
listing_report options file o None = noted (codes "nm") file (codes "no symbols")
listing_report options file o (Some s) =
    table_report options file o s (lend_refusal o kinds.Sym s 0)

unfoldable pub nm_report : NmOptions → Name → Object → Report
nm_report options file o = listing_report options file o (symbol_table o)
