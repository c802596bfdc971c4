-- The lines of the symbol tables (the part `s`).
use Rattle.std.specs.Prelude.{◌==◌, ◌||◌, ℕ, List, Bool, codes}
use Rattle.elf_types.specs.declared.records.Sym.{Sym}
use Rattle.elf_types.specs.declared.records.Kind.TheVariants as kinds
use Rattle.elf_types.specs.declared.constants.TheConstants.{SHT_SYMTAB, SHT_DYNSYM}
use Rattle.elf_object.specs.Object.{Object}
use Rattle.elf_object.specs.Answers.{items_at, syms_of, lend_refusal}
use Rattle.elf_object.specs.Strings.{symbol_name}
use Rattle.tool_objects.specs.gelf_view.Calls.{IsShndxTable}
use Rattle.tool_output.specs.Names.{Name}
use Rattle.tool_output.specs.Reports.{Report}
use Rattle.tool_objects.specs.Symbols.{told_symbol_place}
use Rattle.readelf_rows.specs.declared.links.SectionLinks.{SectionLinks}
use Rattle.readelf_rows.specs.Links.{AreSectionLinks}
use Rattle.readelf_rows.specs.Data.{if_told, each_plain}
use Rattle.readelf_tables.specs.RowsOfSymbols.SymbolLines.{symbol_line}
use Rattle.readelf_tables.specs.Tables.{item_table_report}

-- ---- The symbols of a section

unfoldable pub symbol_row : Object → ℕ → ℕ → Sym → List ℕ
symbol_row o s i x = symbol_line i x (told_symbol_place o s i x) (symbol_name o s x)

unfoldable pub symbols_title : List ℕ
symbols_title = codes "Symbols of section "

-- of a section that is in the file, and whose data is not compressed
unfoldable pub symbols_of_section : Name → Object → ℕ → Report
symbols_of_section name o s =
    if_told name (lend_refusal o kinds.Sym s 0)
    (item_table_report symbols_title symbol_row o s (syms_of (items_at o s 0)))

abbrev pub holds_symbols : ℕ → Bool
holds_symbols stype = stype == SHT_SYMTAB || stype == SHT_DYNSYM

-- those of each such section, by number
unfoldable pub symbols_report : Name → Object → Report
symbols_report name o = each_plain holds_symbols name o (symbols_of_section name o)

-- what a symbol's row needs: the links, and the table of extended indexes of the section
pub record SymbolsFit (o : Object) (s : ℕ) (links : SectionLinks) : Type 0 where
  pub named : AreSectionLinks o s links
  pub indexes : IsShndxTable o s links.indexes
