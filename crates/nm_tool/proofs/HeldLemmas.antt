-- The rows of kept symbols that are told from bytes are those that are stated.
use Rattle.std.proofs.Common.{◌≡◌, ℕ, Bool, List, map, Option, Some, None, refl, sym, ap, ◌∙◌}
use Rattle.std.specs.Prelude.{slice_get}
use Rattle.std.proofs.lemmas.Simd.{map-map}
use Rattle.elf_types.specs.declared.records.Kind.TheVariants as kinds
use Rattle.elf_types.specs.declared.records.Sym.{Sym}
use Rattle.elf_object.specs.Object.{Object}
use Rattle.elf_object.specs.Answers.{syms_of}
use Rattle.elf_object.specs.SymbolSections.{shndx_table}
use Rattle.tool_objects.specs.gelf_view.declared.symbols.SymPlace.{SymPlace}
use Rattle.nm_tool.specs.declared.options.NmOptions.{NmOptions}
use Rattle.tool_output.specs.Names.{Name}
use Rattle.tool_output.specs.Reports.{no_report, shown_report, all_reports_joined, reports_of}
use Rattle.tool_objects.specs.Symbols.{told_symbol_place}
use Rattle.tool_objects.specs.AtHand.Items.{held_items}
use Rattle.nm_tool.specs.declared.kept.Kept.{Kept}
use Rattle.nm_tool.specs.declared.symbols.SymbolTableBytes.{SymbolTableBytes}
use Rattle.nm_tool.specs.Order.{SymbolEntry, entries_in_order}
use Rattle.nm_tool.specs.Listed.{symbols_in_table}
use Rattle.nm_tool.specs.Tables.{ArePlainSymbols}
use Rattle.nm_tool.specs.Tool.{placed_row, listed_symbol_row, symbol_report, symbol_entry_report, symbol_entries_report}
use Rattle.nm_tool.specs.Kept.{shown_name_in, linked_shown_name, ranked_entry, kept_entries, held_report}
use Rattle.nm_tool.proofs.KeptLemmas.{entries_same}

module _ (options : NmOptions) (file : Name) (o : Object) (s : ℕ) (b : SymbolTableBytes)
    (plain : ArePlainSymbols o s b.symbols)
    (names : (at : ℕ) → shown_name_in b.strings.now at ≡ linked_shown_name o s at) where
  abbrev held : List Sym
  held = held_items kinds.Sym syms_of b.symbols

  there : (k : Kept) (i : ℕ) → i ≡ k.index
      → slice_get (symbols_in_table o s) k.index ≡ slice_get held i
  there k i is =
      ap (λ (l : List Sym). slice_get l k.index) plain.held ∙ ap (slice_get held) (sym is)

  report_at : (k : Kept) (i : ℕ) (g : Option Sym) → i ≡ k.index → g ≡ slice_get held i
      → held_report options file o s b.strings.now k
      ≡ symbol_report options file o s k.index (shown_name_in b.strings.now k.name) g
  unfolding symbol_entry_report held_report
  report_at k i g is here =
      ap (symbol_report options file o s k.index (shown_name_in b.strings.now k.name))
      (there k i is ∙ sym here)

  -- that of a symbol which is there
  pub row_held : (k : Kept) (i : ℕ) (x : Sym) (place : Option SymPlace) (name : List ℕ)
      → i ≡ k.index → Some x ≡ slice_get held i
      → ((o : Object) (s n : ℕ) (y : Sym) → None ≡ shndx_table o s → y.shndx ≡ x.shndx
      → told_symbol_place o s n y ≡ place)
      → name ≡ shown_name_in b.strings.now k.name
      → held_report options file o s b.strings.now k
      ≡ shown_report (placed_row options file o x place name)
  unfolding listed_symbol_row
  row_held k i x place name is here placed named =
      report_at k i (Some x) is here
      ∙ ap (λ (p : Option SymPlace).
      shown_report (placed_row options file o x p (shown_name_in b.strings.now k.name)))
      (placed o s k.index x plain.plain refl)
      ∙ ap (λ (n : List ℕ). shown_report (placed_row options file o x place n)) (sym named)

  -- and there is none of another
  pub none_held : (k : Kept) (i : ℕ) → i ≡ k.index → None ≡ slice_get held i
      → held_report options file o s b.strings.now k ≡ no_report
  none_held k i is here = report_at k i None is here

  -- those of all, in their order
  pub order_held : (v : Bool) (list order rows : List Kept)
      → map (ranked_entry v (shown_name_in b.strings.now)) order
      ≡ entries_in_order (kept_entries v (shown_name_in b.strings.now) list) → rows ≡ order
      → symbol_entries_report options file o s
      (kept_entries v (linked_shown_name o s) list)
      ≡ reports_of (held_report options file o s b.strings.now) rows
  unfolding symbol_entries_report reports_of held_report
  order_held v list order rows is same =
      let line = λ (e : SymbolEntry). symbol_entry_report options file o s e.index e.name in
      ap (λ (es : List SymbolEntry). all_reports_joined (map line (entries_in_order es)))
      (sym (entries_same v (shown_name_in b.strings.now) (linked_shown_name o s) names list))
      ∙ ap (λ (es : List SymbolEntry). all_reports_joined (map line es)) (sym is)
      ∙ ap all_reports_joined (map-map line (ranked_entry v (shown_name_in b.strings.now)) order)
      ∙ ap (λ (l : List Kept).
      all_reports_joined (map (held_report options file o s b.strings.now) l)) (sym same)
