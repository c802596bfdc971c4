-- What nm says of an object, by the ways of the code.
use Rattle.std.proofs.Common.{◌≡◌, ◌∙◌, ℕ, Bool, List, ◌-◌, length, map, Option, Some, None, Err, codes, refl, sym, ap, subst}
use Rattle.std.specs.Option.{option_map}
use Rattle.std.proofs.lemmas.Simd.{map-map}
use Rattle.elf_types.specs.declared.records.Kind.TheVariants as kinds
use Rattle.elf_types.specs.declared.records.Class.{Class}
use Rattle.elf_types.specs.declared.records.ScnId.{ScnId}
use Rattle.elf_types.specs.declared.records.Sym.{Sym}
use Rattle.elf_types.specs.declared.errors.ElfError.{ElfError}
use Rattle.elf_types.specs.Text.{error_text}
use Rattle.elf_xlate.specs.Translation.{items_count}
use Rattle.elf_outside.specs.declared.sources.Source.{Ghosts as SourceGhosts}
use Rattle.elf_outside.specs.declared.sinks.Sink.{Ghosts as SinkGhosts}
use Rattle.elf_object.specs.Object.{Object, section_at}
use Rattle.elf_object.specs.Answers.{count_at, items_at, lend_refusal}
use Rattle.tool_objects.specs.elf_descriptor.State.{State}
use Rattle.tool_objects.specs.gelf_view.Calls.{IsShndxTable}
use Rattle.tool_objects.specs.gelf_view.declared.symbols.SymPlace.{SymPlace}
use Rattle.nm_tool.specs.declared.options.NmOptions.{NmOptions}
use Rattle.tool_output.specs.declared.stops.Stop.{Stop}
use Rattle.tool_output.specs.declared.stops.Stop.TheVariants.{Memory}
use Rattle.tool_output.specs.declared.outputs.Outputs.{Outputs}
use Rattle.tool_output.specs.Names.{Name}
use Rattle.tool_output.specs.Reports.{Report, noted, refusal_report, all_reports_joined, reports_of}
use Rattle.tool_objects.specs.Steps.{ReportsElf}
use Rattle.tool_objects.proofs.ElfSteps.{elf_left, left_as, elf_unread}
use Rattle.nm_tool.specs.declared.order.SymbolSortRow.{SymbolSortRow}
use Rattle.nm_tool.specs.declared.pools.Pool.{Pool}
use Rattle.nm_tool.specs.Order.{SymbolEntry, entries_in_order}
use Rattle.nm_tool.specs.Keys.{as_entry}
use Rattle.nm_tool.specs.Listed.{symbols_in_table, symbol_table}
use Rattle.nm_tool.specs.Pools.{spot_entries, pool_of}
use Rattle.nm_tool.specs.declared.symbols.Tables.{Tables}
use Rattle.nm_tool.specs.Letters.{is_undefined, symbol_letter}
use Rattle.nm_tool.specs.Rows.{row_text}
use Rattle.nm_tool.specs.Tables.{AreTables}
use Rattle.nm_tool.specs.Tool.{placed_row, symbol_entry_report, symbol_entries_report, rows_report, table_report, listing_report, nm_report}
use Rattle.nm_tool.specs.PoolReports.{row_report, pool_report}
use Rattle.nm_tool.proofs.PoolLemmas.{pool_entries}

-- ---- Rows

module _ (options : NmOptions) (file : Name) (o : Object) (s : ℕ) where
  -- the rows that are sorted are those of the pool's entries
  pub rows_reported : (old new : List SymbolSortRow) (pool : Pool) → map (as_entry options.by_value) old ≡ spot_entries options.by_value pool.names pool.spots
      → map (as_entry options.by_value) new ≡ entries_in_order (map (as_entry options.by_value) old)
      → pool_report options file o s pool ≡ reports_of (row_report options file o s) new
  unfolding reports_of pool_report symbol_entries_report row_report as_entry
  rows_reported old new pool made sorted =
      let line = λ (e : SymbolEntry). symbol_entry_report options file o s e.index e.name in
      ap (λ (es : List SymbolEntry). all_reports_joined (map line (entries_in_order es))) (sym made)
      ∙ ap (λ (es : List SymbolEntry). all_reports_joined (map line es)) (sym sorted)
      ∙ ap all_reports_joined (map-map line (as_entry options.by_value) new)

  -- those of the whole table
  pub pool_reported : (count : ℕ) → count ≡ length (symbols_in_table o s) → rows_report options file o s ≡ pool_report options file o s (pool_of options o s (count - 1))
  unfolding rows_report pool_report
  pool_reported count is = ap (symbol_entries_report options file o s) (sym (pool_entries options o s count is))

  pub table_told : (r : Option ElfError) → r ≡ None → table_report options file o s r ≡ rows_report options file o s
  unfolding table_report
  table_told r is = ap (table_report options file o s) is

  pub table_refused : (r : Option ElfError) (e : ElfError) → r ≡ Some e → table_report options file o s r ≡ refusal_report (codes "nm") file (error_text e)
  unfolding table_report
  table_refused r e is = ap (table_report options file o s) is

-- a row by what is worked out of it first
pub row_placed : (options : NmOptions) (file : Name) (o : Object) (x : Sym) (place : Option SymPlace)
    (class : Class) (undefined : Bool) (letter : ℕ) (name : List ℕ)
    → class ≡ o.header.class → undefined ≡ is_undefined place → letter ≡ symbol_letter o x place
    → row_text options class file undefined x letter name ≡ placed_row options file o x place name
unfolding placed_row
row_placed options file o x place class undefined letter name of_class of_place of_letter =
    ap (λ (c : Class). row_text options c file undefined x letter name) of_class
    ∙ ap (λ (u : Bool). row_text options o.header.class file u x letter name) of_place
    ∙ ap (λ (l : ℕ). row_text options o.header.class file (is_undefined place) x l name) of_letter

pub tables_are : (o : Object) (s : ScnId) (t : Tables) → t.symbols ≡ s
    → t.names.0 ≡ (section_at o s.0).header.link → IsShndxTable o s.0 t.indexes
    → lend_refusal o kinds.Sym s.0 0 ≡ None → AreTables o t
tables_are o s t is names indexes passed = record {
  passed = subst (λ (u : ScnId). lend_refusal o kinds.Sym u.0 0 ≡ None) (sym is) passed;
  names = subst (λ (u : ScnId). t.names.0 ≡ (section_at o u.0).header.link) (sym is) names;
  indexes = subst (λ (u : ScnId). IsShndxTable o u.0 t.indexes) (sym is) indexes;
}

some_is : {X : Type 0} {x y : X} → Some x ≡ Some y → x ≡ y
some_is h = cc

module _ (options : NmOptions) (file : Name) (o : Object) where
  pub table_found : (s : ScnId) → option_map (λ (x : ScnId). x.0) (Some s) ≡ symbol_table o → nm_report options file o ≡ table_report options file o s.0 (lend_refusal o kinds.Sym s.0 0)
  unfolding nm_report listing_report
  table_found s is = ap (listing_report options file o) (sym is)

  pub table_absent : None ≡ symbol_table o → nm_report options file o ≡ noted (codes "nm") file (codes "no symbols")
  unfolding nm_report listing_report
  table_absent is = ap (listing_report options file o) (sym is)

-- ---- Symbols

pub count_is : (o : Object) (s p : ℕ) → count_at o s p ≡ items_count (items_at o s p)
unfolding count_at
count_is o s p = refl

-- ---- Want of memory

pub no_memory : {S O E : Type 0} (s : SourceGhosts S) (o : SinkGhosts O) (e : SinkGhosts E) (report : Object → Report) (stop : Stop) (a : State S) (t : Outputs O E) → stop ≡ Memory
    → ReportsElf s o e report (Err stop) a a t t
no_memory s o e report stop a t is =
    subst (λ (x : Stop). ReportsElf s o e report (Err x) a a t t) (sym is)
    (elf_unread s o e Bool Memory report a a t (record {
      elf = left_as s (Unit {0}) ⊥ a a (λ went. tt) (elf_left s a);
      read = tt;
      write = tt;
    }))
