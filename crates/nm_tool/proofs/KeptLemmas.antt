-- The symbols that are wanted whatever their names, and the indexes of those that are listed, in
-- their order.
use Rattle.std.proofs.Common.{◌≡◌, ◌++◌, ◌+◌, ◌-◌, ◌<◌, ◌≤◌, ℕ, zero, suc, Bool, true, false, ◌&&◌, List, [], ◌∷◌, length, drop, get_or, map, Option, Some, None, IsTrue, refl, sym, ap, ◌∙◌, arith, append-nil}
use Rattle.std.specs.Prelude.{not, slice_get, if◌then◌else◌}
use Rattle.std.specs.List.{flat_map, AllByRecursion}
use Rattle.std.proofs.lemmas.List.{flat_map_more, drop_more, length-drop, nil_from_length}
use Rattle.std.proofs.lemmas.Option.{slice_get-get_or}
use Rattle.std.proofs.lemmas.Simd.{map-map}
use Rattle.elf_types.specs.declared.records.Sym.{Sym}
use Rattle.elf_object.specs.Object.{Object, section_at}
use Rattle.elf_object.specs.Strings.{string_answer, readable, symbol_name}
use Rattle.tool_objects.specs.elf_descriptor.State.{State}
use Rattle.nm_tool.specs.declared.options.NmOptions.{NmOptions}
use Rattle.tool_output.specs.Names.{Name}
use Rattle.tool_output.specs.Reports.{Report, no_report, joined_reports, all_reports_joined, reports_of}
use Rattle.tool_objects.specs.AtHand.Strings.{HoldsStrings}
use Rattle.nm_tool.specs.declared.kept.Kept.{Kept}
use Rattle.nm_tool.specs.Order.{SymbolEntry, entries_in_order}
use Rattle.nm_tool.specs.Listed.{symbols_in_table, shown_symbol_name, name_or_none, is_empty, is_listable_symbol, is_wanted, is_listed, symbol_entry_of, entry_if, listed_from, listed_entries}
use Rattle.nm_tool.specs.Pools.{if_wanted, wanted_at}
use Rattle.nm_tool.specs.Tool.{symbol_report, symbol_entry_report, symbol_entries_report, rows_report}
use Rattle.nm_tool.specs.Kept.{kept_symbol, with_kept, kept_of, linked_shown_name, shown_name_in, kept_entry, kept_entries, order_of, row_if, shown_row, index_report, kept_report}
use Rattle.nm_tool.proofs.ListedLemmas.{all_listed}
use Rattle.nm_tool.proofs.Sorting.{all_in_order, both_all}

-- ---- The entries of what is kept

module _ (options : NmOptions) (o : Object) (s : ℕ) where
  abbrev entry : Kept → List SymbolEntry
  entry k = kept_entry options.by_value (linked_shown_name o s) k

  entry_is : (i : ℕ) (x : Sym)
      → entry (kept_symbol x i)
      ≡ (if is_empty (shown_symbol_name o s x) then [] else symbol_entry_of options o s i x ∷ [])
  unfolding shown_symbol_name symbol_name symbol_entry_of
  entry_is i x = refl

  module _ (list : List Kept) (i : ℕ) (x : Sym) where
    abbrev made : Option Sym → List Kept
    made w = elim w [ None ↦ list | Some y ↦ list ++ kept_symbol y i ∷ [] ]

    turned : (empty : Bool)
        → (if empty then [] else symbol_entry_of options o s i x ∷ [])
        ≡ (if not empty then symbol_entry_of options o s i x ∷ [] else [])
    turned true = refl
    turned false = refl

    one_more : flat_map entry (list ++ kept_symbol x i ∷ [])
        ≡ flat_map entry list
        ++ (if not (is_empty (shown_symbol_name o s x)) then symbol_entry_of options o s i x ∷ [] else [])
    one_more =
        sym (flat_map_more entry [] list (kept_symbol x i))
        ∙ ap (λ (es : List SymbolEntry). flat_map entry list ++ es)
        (entry_is i x ∙ turned (is_empty (shown_symbol_name o s x)))

    by_tests : (kept wanted : Bool)
        → flat_map entry (made (if kept then (if wanted then Some x else None) else None))
        ≡ flat_map entry list
        ++ (if kept && (wanted && not (is_empty (shown_symbol_name o s x)))
        then symbol_entry_of options o s i x ∷ [] else [])
    by_tests false wanted = sym (append-nil (flat_map entry list))
    by_tests true false = sym (append-nil (flat_map entry list))
    by_tests true true = one_more

    more : slice_get (symbols_in_table o s) i ≡ Some x
        → flat_map entry (with_kept options o s list i)
        ≡ flat_map entry list ++ entry_if options o s i x
    unfolding with_kept wanted_at is_listed
    more is =
        ap (λ (g : Option Sym). flat_map entry
        (made (elim g [ None ↦ None | Some y ↦ if_wanted options o s i y ]))) is
        ∙ by_tests (is_listable_symbol options x) (is_wanted options o s i x)

  none_kept : kept_entries options.by_value (linked_shown_name o s) (kept_of options o s 0) ≡ []
  unfolding kept_of kept_entries
  none_kept = refl

  more_kept : (n : ℕ) (x : Sym) → slice_get (symbols_in_table o s) (n + 1) ≡ Some x
      → kept_entries options.by_value (linked_shown_name o s) (kept_of options o s (suc n))
      ≡ kept_entries options.by_value (linked_shown_name o s) (kept_of options o s n)
      ++ entry_if options o s (n + 1) x
  unfolding kept_of kept_entries
  more_kept n x is = more (kept_of options o s n) (n + 1) x is

  -- those of all symbols are what is listed
  pub kept_listed : (count : ℕ) → count ≡ length (symbols_in_table o s)
      → kept_entries options.by_value (linked_shown_name o s) (kept_of options o s (count - 1))
      ≡ listed_entries options o s
  kept_listed count is =
      all_listed options o s
      (λ (n : ℕ). kept_entries options.by_value (linked_shown_name o s) (kept_of options o s n))
      none_kept more_kept count is

  -- one symbol more
  pub kept_next : (i : ℕ) (list : List Kept) → 1 ≤ i → list ≡ kept_of options o s (i - 1)
      → with_kept options o s list i ≡ kept_of options o s (i + 1 - 1)
  unfolding kept_of
  kept_next zero list begun is = absurd (omega (arith, begun))
  kept_next (suc n) list begun is =
      let before : suc n - 1 ≡ n = omega arith in
      let after : suc n + 1 - 1 ≡ suc n = omega arith in
      let here : suc n ≡ n + 1 = omega arith in
      ap (λ (l : List Kept). with_kept options o s l (suc n)) (is ∙ ap (kept_of options o s) before)
      ∙ ap (with_kept options o s (kept_of options o s n)) here
      ∙ sym (ap (kept_of options o s) after)

-- ---- Their order by names

flat_same : {X Y : Type 0} (f g : X → List Y) → ((x : X) → f x ≡ g x) → (xs : List X)
    → flat_map f xs ≡ flat_map g xs
flat_same f g same [] = refl
flat_same {X} {Y} f g same (x ∷ xs) =
    ap (λ (ys : List Y). ys ++ flat_map f xs) (same x)
    ∙ ap (λ (ys : List Y). g x ++ ys) (flat_same f g same xs)

abbrev entry_by : Bool → Kept → List ℕ → List SymbolEntry
entry_by v k name = if is_empty name then []
    else record { value = if v then k.key else 0; name = name; index = k.index } ∷ []

-- the same entries by the same names
pub entries_same : (v : Bool) (f g : ℕ → List ℕ) → ((at : ℕ) → f at ≡ g at) → (list : List Kept)
    → kept_entries v f list ≡ kept_entries v g list
unfolding kept_entries
entries_same v f g same list =
    flat_same (kept_entry v f) (kept_entry v g) (λ k. ap (entry_by v k) (same k.name)) list

-- and the same order
pub order_same : (v : Bool) (f g : ℕ → List ℕ) → ((at : ℕ) → f at ≡ g at) → (list : List Kept)
    → order_of v f list ≡ order_of v g list
unfolding order_of
order_same v f g same list =
    ap (λ (es : List SymbolEntry). map (λ (e : SymbolEntry). e.index) (entries_in_order es))
    (entries_same v f g same list)

-- names that stand in the bytes of the section to which a table links
pub names_held : {S : Type 0} (state : State S) (s names : ℕ) (strings : List ℕ)
    → names ≡ (section_at state.o s).header.link → HoldsStrings state names strings
    → IsTrue state.told → (at : ℕ) → shown_name_in strings at ≡ linked_shown_name state.o s at
names_held state s names strings linked holds told at =
    ap name_or_none (sym (holds told at))
    ∙ ap (λ (n : ℕ). name_or_none (readable (string_answer state.o n at))) linked

-- ---- What is said of them

some_same : (x y : Sym) → ◌≡◌ {A = Option Sym} (Some x) (Some y) → x ≡ y
some_same x y same = cc

first_left : (l : List Sym) (i : ℕ) (x : Sym) (xs : List Sym) → drop i l ≡ x ∷ xs
    → (slice_get l i ≡ Some x) × (drop (i + 1) l ≡ xs)
first_left l i x xs left =
    let lt : i < length l =
    omega (arith, length-drop i l, ap (λ (m : List Sym). length m) left) in
    let both : ◌≡◌ {A = List Sym} (get_or l i x ∷ drop (i + 1) l) (x ∷ xs) =
    sym (drop_more l i x lt) ∙ left in
    let head : get_or l i x ≡ x = cc in
    let tail : drop (i + 1) l ≡ xs = cc in
    (slice_get-get_or l i x lt ∙ ap Some head, tail)

module _ (options : NmOptions) (file : Name) (o : Object) (s : ℕ) where
  -- an entry has the name of its symbol
  abbrev IsNamed : SymbolEntry → Type 0
  IsNamed e = (x : Sym) → slice_get (symbols_in_table o s) e.index ≡ Some x → e.name ≡ shown_symbol_name o s x

  named_if : (i : ℕ) (x : Sym) (chosen : Bool) → slice_get (symbols_in_table o s) i ≡ Some x
      → AllByRecursion IsNamed (if chosen then symbol_entry_of options o s i x ∷ [] else [])
  unfolding symbol_entry_of
  named_if i x true here =
      (λ y there. ap (shown_symbol_name o s) (some_same x y (sym here ∙ there)), tt)
  named_if i x false here = tt

  from_named : (xs : List Sym) (i : ℕ) → drop i (symbols_in_table o s) ≡ xs
      → AllByRecursion IsNamed (listed_from options o s i xs)
  unfolding listed_from
  from_named [] i left = tt
  from_named (x ∷ xs) i left =
      let here = first_left (symbols_in_table o s) i x xs left in
      both_all IsNamed (entry_if options o s i x) (listed_from options o s (i + 1) xs)
      (named_if i x (is_listed options o s i x) here.0) (from_named xs (i + 1) here.1)

  all_named : AllByRecursion IsNamed (listed_entries options o s)
  unfolding listed_entries
  all_named = from_named (drop 1 (symbols_in_table o s)) 1 refl

  report_is : (e : SymbolEntry) → IsNamed e
      → symbol_entry_report options file o s e.index e.name ≡ index_report options file o s e.index
  unfolding symbol_entry_report index_report shown_row
  report_is e named = by_symbol (slice_get (symbols_in_table o s) e.index) refl
    where
      by_symbol : (g : Option Sym) → slice_get (symbols_in_table o s) e.index ≡ g
          → symbol_report options file o s e.index e.name g ≡ row_if options file o s e.index g
      by_symbol None is = refl
      by_symbol (Some x) is =
          ap (λ (name : List ℕ). symbol_report options file o s e.index name (Some x)) (named x is)

  abbrev line : SymbolEntry → Report
  line e = symbol_entry_report options file o s e.index e.name

  reports_are : (es : List SymbolEntry) → AllByRecursion IsNamed es
      → reports_of line es
      ≡ reports_of (index_report options file o s) (map (λ (e : SymbolEntry). e.index) es)
  unfolding reports_of all_reports_joined
  reports_are [] all = refl
  reports_are (e ∷ es) all =
      ap (λ (r : Report). joined_reports r (all_reports_joined (map line es))) (report_is e all.0)
      ∙ ap (joined_reports (index_report options file o s e.index)) (reports_are es all.1)

  -- the rows of a table are those of the entries of its kept symbols
  pub kept_rows : (count : ℕ) (list : List Kept) → count ≡ length (symbols_in_table o s)
      → list ≡ kept_of options o s (count - 1)
      → rows_report options file o s
      ≡ symbol_entries_report options file o s (kept_entries options.by_value (linked_shown_name o s) list)
  unfolding rows_report
  kept_rows count list counted kept =
      ap (symbol_entries_report options file o s)
      (sym (ap (kept_entries options.by_value (linked_shown_name o s)) kept
      ∙ kept_listed options o s count counted))

  -- and those of its kept symbols in order
  pub order_reported : (count : ℕ) (list : List Kept) (order : List ℕ)
      → count ≡ length (symbols_in_table o s) → list ≡ kept_of options o s (count - 1)
      → order ≡ order_of options.by_value (linked_shown_name o s) list
      → rows_report options file o s ≡ reports_of (index_report options file o s) order
  unfolding rows_report symbol_entries_report order_of
  order_reported count list order counted kept is =
      reports_are (entries_in_order (listed_entries options o s))
      (all_in_order IsNamed (listed_entries options o s) all_named)
      ∙ ap (λ (es : List SymbolEntry). reports_of (index_report options file o s)
      (map (λ (e : SymbolEntry). e.index) (entries_in_order es)))
      (sym (ap (kept_entries options.by_value (linked_shown_name o s)) kept
      ∙ kept_listed options o s count counted))
      ∙ sym (ap (reports_of (index_report options file o s)) is)

  -- none has a row where none is kept
  pub none_reported : (count : ℕ) (list : List Kept) → count ≡ length (symbols_in_table o s)
      → list ≡ kept_of options o s (count - 1) → length list ≡ 0
      → rows_report options file o s ≡ no_report
  unfolding order_of kept_entries entries_in_order reports_of all_reports_joined
  none_reported count list counted kept none =
      order_reported count list (order_of options.by_value (linked_shown_name o s) list) counted kept refl
      ∙ ap (λ (l : List Kept). reports_of (index_report options file o s)
      (order_of options.by_value (linked_shown_name o s) l)) (nil_from_length list none)

  -- kept symbols stand for their indexes
  pub kept_reported : (order : List Kept)
      → reports_of (index_report options file o s) (map (λ (k : Kept). k.index) order)
      ≡ reports_of (kept_report options file o s) order
  unfolding reports_of kept_report
  kept_reported order =
      ap all_reports_joined (map-map (index_report options file o s) (λ (k : Kept). k.index) order)
