-- The rows of symbols: their names, their sections where a table has no extended indexes, and those
-- of a table whose bytes are at hand.
use Rattle.std.proofs.Common.{◌≡◌, ℕ, Bool, true, false, Option, Some, None, Result, Ok, Err, IsTrue, refl, sym, ap, ◌∙◌}
use Rattle.std.specs.Prelude.{nat_lt, ◌==◌, List, if◌then◌else◌}
use Rattle.std.specs.Option.{option_map}
use Rattle.elf_types.specs.declared.errors.ElfError.{ElfError}
use Rattle.elf_types.specs.declared.errors.ElfError.TheVariants.{NoEntry}
use Rattle.elf_types.specs.declared.constants.TheConstants.{SHN_LORESERVE, SHN_XINDEX}
use Rattle.elf_types.specs.declared.records.ScnId.{ScnId}
use Rattle.elf_types.specs.declared.records.Sym.{Sym}
use Rattle.elf_object.specs.Words.{result_map}
use Rattle.elf_object.specs.Object.{Object, section_at}
use Rattle.elf_object.specs.Answers.{items_at, syms_of}
use Rattle.elf_object.specs.Calls.{word_answer}
use Rattle.elf_object.specs.Strings.{string_answer, symbol_name, readable}
use Rattle.elf_object.specs.SymbolSections.{shndx_table, extended_index, place_of_symbol}
use Rattle.tool_objects.specs.elf_descriptor.State.{State}
use Rattle.tool_objects.specs.gelf_view.declared.symbols.SymPlace.{SymPlace}
use Rattle.tool_objects.specs.gelf_view.declared.symbols.SymPlace.TheVariants.{Special, Section}
use Rattle.tool_output.specs.Lines.{numbered_lines}
use Rattle.tool_output.specs.Reports.{shown_report}
use Rattle.tool_objects.specs.Answers.{value_of}
use Rattle.tool_objects.specs.Symbols.{told_symbol_place}
use Rattle.readelf_rows.specs.declared.links.ItemTable.{ItemTable}
use Rattle.readelf_tables.proofs.blocks.BlockLemmas.{lines_same}
use Rattle.readelf_tables.specs.RowsOfSymbols.SymbolLines.{symbol_line}
use Rattle.readelf_tables.specs.RowsOfSymbols.SymbolBytes.{plain_place, bytes_row, symbols_of_bytes, AreSymbolBytes}
use Rattle.readelf_tables.specs.declared.rows_of_symbols.symbol_bytes.SymbolBytes.{SymbolBytes}
use Rattle.readelf_tables.specs.Symbols.{symbol_row, SymbolsFit}

-- the name is the string in the linked section
pub symbol_name_is : (o : Object) (s : ℕ) (x : Sym) (link at : ℕ) → link ≡ (section_at o s).header.link → at ≡ x.name
    → symbol_name o s x ≡ readable (string_answer o link at)
unfolding symbol_name
symbol_name_is o s x link at linked named =
    ap (λ (n : ℕ). readable (string_answer o n x.name)) (sym linked) ∙ ap (λ (n : ℕ). readable (string_answer o link n)) (sym named)

-- ---- Sections without a table of extended indexes

-- an extended index can not be told
no_index : (o : Object) (s i : ℕ) → None ≡ shndx_table o s → value_of (extended_index o s i) ≡ None
unfolding extended_index
no_index o s i none =
    ap (λ (table : Option ℕ). value_of (elim table [ None ↦ Err (NoEntry i 0) | Some x ↦ word_answer o x 0 i ])) (sym none)

-- by the two tests of the index
place_by : (n : ℕ) (low extended : Bool) (index : Result ℕ ElfError) → value_of index ≡ None
    → value_of (if low then Ok (Section n) else (if extended then result_map Section index else Ok (Special n)))
    ≡ (if low then Some (Section n) else (if extended then None else Some (Special n)))
place_by n true extended index none = refl
place_by n false true (Ok m) none = cc
place_by n false true (Err e) none = refl
place_by n false false index none = refl

place_is : (o : Object) (s i : ℕ) (x : Sym) → None ≡ shndx_table o s → told_symbol_place o s i x ≡ plain_place x.shndx
unfolding told_symbol_place place_of_symbol plain_place
place_is o s i x none =
    place_by x.shndx (nat_lt x.shndx SHN_LORESERVE) (x.shndx == SHN_XINDEX) (extended_index o s i) (no_index o s i none)

-- ---- A table whose bytes are at hand

module _ {S : Type 0} (state : State S) (table : ItemTable) (t : SymbolBytes) (fit : SymbolsFit state.o table.section.0 table.links)
    (are : AreSymbolBytes state table t) (told : IsTrue state.told) where
  no_table : None ≡ shndx_table state.o table.section.0
  no_table = sym (ap (λ (indexes : Option ScnId). option_map (λ (x : ScnId). x.0) indexes) are.plain) ∙ fit.indexes

  row_is_held : (i : ℕ) (x : Sym) → symbol_row state.o table.section.0 i x ≡ bytes_row t.strings.now i x
  unfolding symbol_row
  row_is_held i x =
      ap (λ (place : Option SymPlace). symbol_line i x place (symbol_name state.o table.section.0 x)) (place_is state.o table.section.0 i x no_table)
      ∙ ap (λ (name : Option (List ℕ)). symbol_line i x (plain_place x.shndx) name)
      (symbol_name_is state.o table.section.0 x table.links.linked.0 x.name fit.named.linked refl ∙ are.names told x.name)

  -- its rows are told from the bytes
  pub symbol_rows_are : shown_report (numbered_lines (symbol_row state.o table.section.0) 0 (syms_of (items_at state.o table.section.0 0)))
      ≡ shown_report (numbered_lines (bytes_row t.strings.now) 0 (symbols_of_bytes t))
  symbol_rows_are =
      ap shown_report (lines_same (symbol_row state.o table.section.0) (bytes_row t.strings.now) row_is_held 0 (syms_of (items_at state.o table.section.0 0))
      ∙ ap (numbered_lines (bytes_row t.strings.now) 0) (are.symbols.items told))
