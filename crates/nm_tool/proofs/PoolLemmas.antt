-- The pool of the symbols that are listed, and its entries.
use Rattle.std.proofs.Common.{◌≡◌, ◌++◌, ◌+◌, ◌-◌, ◌≤◌, ℕ, zero, suc, Bool, true, false, ◌&&◌, List, [], ◌∷◌, length, take, drop, Option, Some, None, refl, sym, ap, ◌∙◌, arith, append-nil}
use Rattle.std.specs.Prelude.{not, slice_get, if◌then◌else◌}
use Rattle.std.proofs.lemmas.List.{take-append-le, drop-append-le, length-append, length-drop}
use Rattle.std.proofs.Math.Seq.{take-length}
use Rattle.elf_types.specs.declared.records.Sym.{Sym}
use Rattle.elf_object.specs.Object.{Object}
use Rattle.nm_tool.specs.declared.options.NmOptions.{NmOptions}
use Rattle.nm_tool.specs.declared.pools.Spot.{Spot}
use Rattle.nm_tool.specs.declared.pools.Pool.{Pool}
use Rattle.nm_tool.specs.Order.{SymbolEntry}
use Rattle.nm_tool.specs.Listed.{symbols_in_table, shown_symbol_name, is_empty, is_listable_symbol, is_wanted, is_listed, symbol_entry_of, entry_if, listed_entries}
use Rattle.nm_tool.specs.Pools.{spot_entries, if_wanted, wanted_at, pool_with_name, with_symbol, pool_of}
use Rattle.nm_tool.proofs.ListedLemmas.{all_listed}

-- how many bytes the names have
abbrev pub spots_total : List Spot → ℕ
spots_total [] = 0
spots_total (s ∷ spots) = s.len + spots_total spots

total_append : (spots : List Spot) (t : Spot) → spots_total (spots ++ t ∷ []) ≡ spots_total spots + t.len
total_append [] t = omega arith
total_append (u ∷ us) t = omega (arith, total_append us t)

-- one more name
spots_append : (v : Bool) (names name : List ℕ) (spots : List Spot) (t : Spot) → spots_total spots ≡ length names → t.len ≡ length name
    → spot_entries v (names ++ name) (spots ++ t ∷ []) ≡ spot_entries v names spots ++ record { value = if v then t.value else 0; name = name; index = t.index } ∷ []
unfolding spot_entries
spots_append v [] name [] t sized is =
    ap (λ (l : List ℕ). record { value = if v then t.value else 0; name = l; index = t.index } ∷ [])
    (ap (λ (n : ℕ). take n name) is ∙ take-length name)
spots_append v (y ∷ ys) name [] t sized is = absurd (omega (arith, sized))
spots_append v names name (u ∷ us) t sized is =
    let within : u.len ≤ length names = omega (arith, sized) in
    let rest : spots_total us ≡ length (drop u.len names) = omega (arith, sized, length-drop u.len names) in
    ap (λ (l : List ℕ). record { value = if v then u.value else 0; name = l; index = u.index } ∷ spot_entries v (drop u.len (names ++ name)) (us ++ t ∷ [])) (take-append-le u.len names name within)
    ∙ ap (λ (l : List ℕ). record { value = if v then u.value else 0; name = take u.len names; index = u.index } ∷ spot_entries v l (us ++ t ∷ [])) (drop-append-le u.len names name within)
    ∙ ap (λ (es : List SymbolEntry). record { value = if v then u.value else 0; name = take u.len names; index = u.index } ∷ es) (spots_append v (drop u.len names) name us t rest is)

module _ (options : NmOptions) (o : Object) (s : ℕ) where
  abbrev entries : Pool → List SymbolEntry
  entries p = spot_entries options.by_value p.names p.spots

  module _ (i : ℕ) (p : Pool) where
    abbrev made : Option Sym → Pool
    made w = elim w [ None ↦ p | Some y ↦ pool_with_name p y.value i (shown_symbol_name o s y) ]

    sized_by : (value : ℕ) (name : List ℕ) (empty : Bool) → spots_total p.spots ≡ length p.names
        → let q : Pool = if empty then p else record { names = p.names ++ name; spots = p.spots ++ record { value = value; index = i; len = length name } ∷ [] } in spots_total q.spots ≡ length q.names
    sized_by value name true sized = sized
    sized_by value name false sized = omega (arith, sized, total_append p.spots (record { value = value; index = i; len = length name }), length-append p.names name)

    sized_with : (w : Option Sym) → spots_total p.spots ≡ length p.names → spots_total (made w).spots ≡ length (made w).names
    unfolding pool_with_name
    sized_with None sized = sized
    sized_with (Some y) sized = sized_by y.value (shown_symbol_name o s y) (is_empty (shown_symbol_name o s y)) sized

    module _ (x : Sym) (sized : spots_total p.spots ≡ length p.names) where
      named : (empty : Bool)
          → entries (if empty then p else record { names = p.names ++ shown_symbol_name o s x; spots = p.spots ++ record { value = x.value; index = i; len = length (shown_symbol_name o s x) } ∷ [] })
          ≡ entries p ++ (if not empty then symbol_entry_of options o s i x ∷ [] else [])
      unfolding symbol_entry_of
      named true = sym (append-nil (entries p))
      named false = spots_append options.by_value p.names (shown_symbol_name o s x) p.spots (record { value = x.value; index = i; len = length (shown_symbol_name o s x) }) sized refl

      by_tests : (kept wanted : Bool) → entries (made (if kept then (if wanted then Some x else None) else None))
          ≡ entries p ++ (if kept && (wanted && not (is_empty (shown_symbol_name o s x))) then symbol_entry_of options o s i x ∷ [] else [])
      unfolding pool_with_name
      by_tests false wanted = sym (append-nil (entries p))
      by_tests true false = sym (append-nil (entries p))
      by_tests true true = named (is_empty (shown_symbol_name o s x))

      more : slice_get (symbols_in_table o s) i ≡ Some x → entries (with_symbol options o s p i) ≡ entries p ++ entry_if options o s i x
      unfolding with_symbol wanted_at is_listed
      more is = ap (λ (g : Option Sym). entries (made (elim g [ None ↦ None | Some y ↦ if_wanted options o s i y ]))) is ∙ by_tests (is_listable_symbol options x) (is_wanted options o s i x)

  pool_sized : (n : ℕ) → spots_total (pool_of options o s n).spots ≡ length (pool_of options o s n).names
  unfolding pool_of with_symbol
  pool_sized zero = refl
  pool_sized (suc n) = sized_with (n + 1) (pool_of options o s n) (wanted_at options o s (n + 1)) (pool_sized n)

  made_more : (n : ℕ) (x : Sym) → slice_get (symbols_in_table o s) (n + 1) ≡ Some x
      → entries (pool_of options o s (suc n))
      ≡ entries (pool_of options o s n) ++ entry_if options o s (n + 1) x
  unfolding pool_of
  made_more n x is = more (n + 1) (pool_of options o s n) x (pool_sized n) is

  made_none : entries (pool_of options o s 0) ≡ []
  unfolding pool_of spot_entries
  made_none = refl

  -- the entries of the pool of all symbols
  pub pool_entries : (count : ℕ) → count ≡ length (symbols_in_table o s)
      → spot_entries options.by_value (pool_of options o s (count - 1)).names
      (pool_of options o s (count - 1)).spots ≡ listed_entries options o s
  pool_entries count is =
      all_listed options o s (λ (n : ℕ). entries (pool_of options o s n)) made_none made_more count is

  -- one symbol more
  pub pool_next : (i : ℕ) (pool : Pool) → 1 ≤ i → pool ≡ pool_of options o s (i - 1) → with_symbol options o s pool i ≡ pool_of options o s (i + 1 - 1)
  unfolding pool_of
  pool_next zero pool begun is = absurd (omega (arith, begun))
  pool_next (suc n) pool begun is =
      let before : suc n - 1 ≡ n = omega arith in
      let after : suc n + 1 - 1 ≡ suc n = omega arith in
      let here : suc n ≡ n + 1 = omega arith in
      ap (λ (p : Pool). with_symbol options o s p (suc n)) (is ∙ ap (pool_of options o s) before)
      ∙ ap (with_symbol options o s (pool_of options o s n)) here
      ∙ sym (ap (pool_of options o s) after)
