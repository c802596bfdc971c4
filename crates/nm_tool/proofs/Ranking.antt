-- Kept symbols in the order of their rows: what a sort by keys, names and indexes leaves is the list
-- that is stated.
use Rattle.std.proofs.Common.{◌≡◌, ℕ, ◌+◌, ◌<◌, ◌≤◌, zero, suc, List, [], ◌∷◌, ◌++◌, map, take, drop, get_or, set, length, Bool, true, false, ◌||◌, cond, not, nat_cmp, Ordering, Some, None, codes, ap, sym, ◌∙◌, refl, subst, arith, append-nil, below_more}
use Rattle.std.specs.Prelude.{◌^◌, ◌==◌, All, slice_index_or, nat_lt, filter, take_while, if◌then◌else◌}
use Rattle.std.specs.Ordering.{is_lt, ordering_then}
use Rattle.std.specs.declared.cmp.Ordering.TheVariants.{Less, Equal, Greater}
use Rattle.std.specs.Cmp.{IsTotalOrder}
use Rattle.std.specs.Cmp.Lexicographic.{slice_cmp}
use Rattle.std.specs.List.{AllByRecursion, prefix_len}
use Rattle.std.specs.List.Sorted.{IsSorted, IsPermutation, IsNonDecreasingBy}
use Rattle.std.proofs.lemmas.Cmp.{nat_cmp_total, nat_list_cmp_total, then_total, on_total, tied_itself}
use Rattle.std.proofs.lemmas.List.Sorted.{IsPermutation-map, All-permutation, IsNonDecreasingBy-from_sort}
use Rattle.std.proofs.lemmas.Bool.{ltb-true, ltb-false, ne_eqb}
use Rattle.std.proofs.lemmas.List.{get_or_append_left, get_or_default, get_or-drop, get_or-take, length-take-le, take_all}
use Rattle.std.proofs.lemmas.List.Edits.{map_over_more}
use Rattle.std.proofs.lemmas.List.Elements.{recursion_from_All, All-take, All-drop, All-map}
use Rattle.std.proofs.lemmas.Simd.{map-map}
use Rattle.std.proofs.Math.ListN.{drop_of_length-le}
use Rattle.elf_types.specs.Lists.{AreBytes, refilled}
use Rattle.elf_object.specs.Strings.{has_nul}
use Rattle.tool_objects.specs.gelf_view.Records.{string_front}
use Rattle.nm_tool.specs.declared.kept.Kept.{Kept}
use Rattle.nm_tool.specs.Order.{SymbolEntry, entry_cmp, inserted, entries_in_order}
use Rattle.nm_tool.specs.Listed.{is_empty, name_or_none}
use Rattle.nm_tool.specs.Kept.{shown_name_in, ranked_entry, kept_entry, kept_entries, order_of}
use Rattle.nm_tool.specs.Ranked.{number_from, SharesFront, keyed, HasKey, AreKeyed, names_cmp, kept_cmp, has_nonempty_name}
use Rattle.nm_tool.proofs.Sorting.{sorted_by, first_less, byte_small, in_order_moved}

-- ---- The bytes that names share

abbrev pub Shared : (ℕ → List ℕ) → ℕ → List ℕ → List Kept → ℕ → Type 0
Shared name_of count first rows n =
    (j : ℕ) → j < n → (d : Kept) → SharesFront count first (name_of (get_or rows j d).name)

-- fewer bytes, and one symbol more
pub share_more : (name_of : ℕ → List ℕ) (first : List ℕ) (rows : List Kept) (i : ℕ) (k : Kept)
    (count next : ℕ) → i < length rows → k ≡ get_or rows i k → next ≤ count
    → Shared name_of count first rows i → SharesFront next first (name_of k.name)
    → Shared name_of next first rows (i + 1)
share_more name_of first rows i k count next inside is less before here =
    below_more (λ (j : ℕ). (d : Kept) → SharesFront next first (name_of (get_or rows j d).name)) i
    (λ j lt d m small. before j lt d m (omega (arith, less, small)))
    (λ d m small. here m small
    ∙ ap (λ (x : Kept). slice_index_or (name_of x.name) m 0)
    (is ∙ get_or_default rows i k d inside))

-- a list that begins with a front of another
pub begins_shared : (first name rest : List ℕ) (count : ℕ) → count ≤ length first
    → name ≡ take count first ++ rest → SharesFront count first name
begins_shared first name rest count le is = λ i lt.
    let inside : i < length (take count first) =
    omega (arith, lt, length-take-le count first le) in
    sym (get_or-take count first i 0 lt) ∙ sym (get_or_append_left (take count first) rest 0 i inside)
    ∙ ap (λ (l : List ℕ). slice_index_or l i 0) (sym is)

-- ---- Keys

module _ (a b : List ℕ) (bytes_a : AllByRecursion (λ x. x < 2 ^ 8) a)
    (bytes_b : AllByRecursion (λ x. x < 2 ^ 8) b) (place : ℕ) (shares : SharesFront place a b) where
  same_from : (n : ℕ) → number_from place n a ≡ number_from place n b → (i : ℕ) → i < place + n
      → slice_index_or a i 0 ≡ slice_index_or b i 0
  unfolding number_from
  same_from zero same i lt = shares i (omega (arith, lt))
  same_from (suc n) same i lt =
      let sa = byte_small a (place + n) bytes_a in
      let sb = byte_small b (place + n) bytes_b in
      let front : number_from place n a ≡ number_from place n b = omega (arith, same, sa, sb) in
      let last : slice_index_or a (place + n) 0 ≡ slice_index_or b (place + n) 0 =
      omega (arith, same, sa, sb) in
      by_place (nat_lt i (place + n)) refl last (λ below. same_from n front i below)
    where
      by_place : (t : Bool) → nat_lt i (place + n) ≡ t
          → slice_index_or a (place + n) 0 ≡ slice_index_or b (place + n) 0
          → (i < place + n → slice_index_or a i 0 ≡ slice_index_or b i 0)
          → slice_index_or a i 0 ≡ slice_index_or b i 0
      by_place true is last earlier = earlier (ltb-true i (place + n) is)
      by_place false is last earlier =
          let past = ltb-false i (place + n) is in
          let at : i ≡ place + n = omega (arith, past, lt) in
          subst (λ (k : ℕ). slice_index_or a k 0 ≡ slice_index_or b k 0) (sym at) last

  pub less_from : (n : ℕ) → number_from place n a < number_from place n b
      → slice_cmp nat_cmp a b ≡ Less
  unfolding number_from
  less_from zero less = absurd (omega (arith, less))
  less_from (suc n) less =
      by_front (nat_lt (number_from place n a) (number_from place n b)) refl
      (λ below. less_from n below)
    where
      by_front : (t : Bool) → nat_lt (number_from place n a) (number_from place n b) ≡ t
          → (number_from place n a < number_from place n b → slice_cmp nat_cmp a b ≡ Less)
          → slice_cmp nat_cmp a b ≡ Less
      by_front true is earlier =
          earlier (ltb-true (number_from place n a) (number_from place n b) is)
      by_front false is earlier =
          let past = ltb-false (number_from place n a) (number_from place n b) is in
          let sa = byte_small a (place + n) bytes_a in
          let sb = byte_small b (place + n) bytes_b in
          let front : number_from place n a ≡ number_from place n b =
          omega (arith, past, less, sa, sb) in
          let last : slice_index_or a (place + n) 0 < slice_index_or b (place + n) 0 =
          omega (arith, front, less, sa, sb) in
          first_less (place + n) a b (same_from n front) last

pub same_kept : (key key' index name : ℕ) → key ≡ key'
    → ◌≡◌ {A = Kept} (record { key = key; index = index; name = name })
    (record { key = key'; index = index; name = name })
same_kept key key' index name same = cc

-- a symbol more that is changed, in a list of symbols
pub changed_more : (f : Kept → Kept) (rows now : List Kept) (i : ℕ) (d new : Kept)
    → i < length rows → i < length now → now ≡ map f (take i rows) ++ drop i rows
    → new ≡ f (get_or now i d)
    → set now i new ≡ map f (take (i + 1) rows) ++ drop (i + 1) rows
changed_more f rows now i d new inside within so_far is =
    ap (λ (x : Kept). set now i x) is
    ∙ map_over_more f rows now i (get_or now i d) inside so_far
    (get_or_default now i d (get_or now i d) within)

-- as many symbols in the place of those of a list
pub same_length : (old new : List Kept) → length new ≡ length old → refilled old new ≡ new
same_length old new same =
    ap (λ (l : List Kept). take (length old) (new ++ l))
    (drop_of_length-le old (omega (arith, same)))
    ∙ ap (λ (l : List Kept). take (length old) l) (append-nil new)
    ∙ take_all (length old) new (omega (arith, same))

-- symbols with keys, which are not part of their entries
pub keyed_entries : (name_of : ℕ → List ℕ) (place : ℕ) (rows : List Kept)
    → map (ranked_entry false name_of) (map (keyed name_of place) rows)
    ≡ map (ranked_entry false name_of) rows
keyed_entries name_of place rows =
    map-map (ranked_entry false name_of) (keyed name_of place) rows

pub are_keyed : (name_of : ℕ → List ℕ) (place : ℕ) (first : List ℕ) (rows : List Kept)
    → All (λ k. SharesFront place first (name_of k.name)) rows
    → AreKeyed name_of (map (keyed name_of place) rows)
are_keyed name_of place first rows shares = record {
  place = place;
  first = first;
  keys = All-map (HasKey name_of place first) (keyed name_of place) rows
      (λ i d lt. record { shares = shares i d lt; key = refl });
}

-- symbols that are moved keep their keys
pub keyed_moved : (name_of : ℕ → List ℕ) (old new : List Kept) → IsPermutation old new
    → AreKeyed name_of old → AreKeyed name_of new
keyed_moved name_of old new moved are = record {
  place = are.place;
  first = are.first;
  keys = All-permutation (HasKey name_of are.place are.first) old new moved are.keys;
}

-- those of a part of them
pub all_taken : (name_of : ℕ → List ℕ) (place : ℕ) (first : List ℕ) (rows : List Kept) (at n : ℕ)
    → All (HasKey name_of place first) rows → All (HasKey name_of place first) (take n (drop at rows))
all_taken name_of place first rows at n all =
    All-take (HasKey name_of place first) n (drop at rows)
    (All-drop (HasKey name_of place first) at rows all)

-- the order of symbols as records: by their keys first
abbrev kept_order : Kept → Kept → Ordering
kept_order a b =
    ordering_then (nat_cmp a.key b.key)
    (ordering_then (nat_cmp a.index b.index) (nat_cmp a.name b.name))

first_part : (r s : Ordering) → is_lt (ordering_then r s) ≡ false → is_lt r ≡ false
first_part Less s h = h
first_part Equal s h = refl
first_part Greater s h = refl

-- a sort of them makes the keys rise
pub keys_rise : (rows : List Kept) → IsSorted kept_order rows
    → IsNonDecreasingBy (λ (k : Kept). k.key) rows
keys_rise rows sorted = IsNonDecreasingBy-from_sort (λ (k : Kept). k.key) rows
    (λ k d low inside.
    let x = get_or rows (k + 1) d in
    let y = get_or rows k d in
    first_part (nat_cmp x.key y.key)
    (ordering_then (nat_cmp x.index y.index) (nat_cmp x.name y.name)) (sorted k d low inside))

-- ---- The bytes of names

abbrev pub Small : List ℕ → Type 0
Small l = AllByRecursion (λ x. x < 2 ^ 8) l

none_small : Small (codes "<none>")
none_small =
    (omega arith, (omega arith, (omega arith, (omega arith, (omega arith, (omega arith, tt))))))

front_small : (l : List ℕ) → All (λ x. x < 2 ^ 8) l → Small (name_or_none (string_front l))
unfolding string_front
front_small l all = by_test (has_nul l)
  where
    by_test : (t : Bool)
        → Small (name_or_none (if t then Some (take_while (λ b. not (b == 0)) l) else None))
    by_test true =
        recursion_from_All (λ x. x < 2 ^ 8) (take_while (λ b. not (b == 0)) l)
        (All-take (λ x. x < 2 ^ 8) (prefix_len (λ b. not (b == 0)) l) l all)
    by_test false = none_small

first_named : (l : List ℕ)
    → (slice_index_or l 0 1 == 0) ≡ is_empty (name_or_none (string_front l))
unfolding string_front
first_named [] = refl
first_named (b ∷ l) = by_tests (b == 0) (has_nul l)
  where
    by_tests : (zero_first later : Bool)
        → zero_first
        ≡ is_empty (name_or_none (cond (zero_first || later)
        (Some (take (cond (not zero_first) (1 + prefix_len (λ c. not (c == 0)) l) 0) (b ∷ l)))
        None))
    by_tests true later = refl
    by_tests false true =
        let n = prefix_len (λ (c : ℕ). not (c == 0)) l in
        let up : 1 + n ≡ suc n = omega arith in
        sym (ne_eqb (length (take (1 + n) (b ∷ l))) 0 (λ e.
        let some : suc (length (take n l)) ≡ 0 =
        subst (λ (m : ℕ). length (take m (b ∷ l)) ≡ 0) up e in
        omega (arith, some)))
    by_tests false false = refl

-- a name is empty exactly where its first byte is a NUL
pub named_first : (strings : List ℕ) (at : ℕ)
    → (slice_index_or strings at 1 == 0) ≡ is_empty (shown_name_in strings at)
named_first strings at =
    let here : at + 0 ≡ at = omega arith in
    ap (λ (n : ℕ). slice_index_or strings n 1 == 0) (sym here)
    ∙ ap (λ (n : ℕ). n == 0) (sym (get_or-drop at strings 0 1)) ∙ first_named (drop at strings)

pub shown_small : (strings : List ℕ) → AreBytes strings → (at : ℕ) → Small (shown_name_in strings at)
shown_small strings bytes at =
    front_small (drop at strings) (All-drop (λ x. x < 2 ^ 8) at strings bytes)

-- ---- The order

-- the name of one place
pub same_shown : (strings : List ℕ) (a b : ℕ) → a ≡ b
    → Equal ≡ slice_cmp nat_cmp (shown_name_in strings a) (shown_name_in strings b)
same_shown strings a b same =
    sym (tied_itself nat_list_cmp_total (shown_name_in strings a))
    ∙ ap (λ (n : ℕ). slice_cmp nat_cmp (shown_name_in strings a) (shown_name_in strings n)) same

module _ (name_of : ℕ → List ℕ) where
  pub names_cmp_total : IsTotalOrder (names_cmp name_of)
  unfolding names_cmp
  names_cmp_total =
      then_total (on_total (λ (k : Kept). name_of k.name) nat_list_cmp_total)
      (on_total (λ (k : Kept). k.index) nat_cmp_total)

  pub kept_cmp_total : IsTotalOrder (kept_cmp name_of)
  unfolding kept_cmp names_cmp
  kept_cmp_total =
      then_total (on_total (λ (k : Kept). k.key) nat_cmp_total)
      (then_total (on_total (λ (k : Kept). name_of k.name) nat_list_cmp_total)
      (on_total (λ (k : Kept). k.index) nat_cmp_total))

  -- by value the order of the symbols is that of their entries
  valued : (x y : Kept) → is_lt (kept_cmp name_of y x) ≡ false
      → is_lt (entry_cmp (ranked_entry true name_of y) (ranked_entry true name_of x)) ≡ false
  unfolding entry_cmp kept_cmp names_cmp
  valued x y later = later

  -- and so is that of their names by name
  named : (x y : Kept) → is_lt (names_cmp name_of y x) ≡ false
      → is_lt (entry_cmp (ranked_entry false name_of y) (ranked_entry false name_of x)) ≡ false
  unfolding entry_cmp names_cmp
  named x y later = later

  -- what a sort by value leaves
  pub sorted_values : (old new : List Kept) → IsPermutation old new
      → IsSorted (kept_cmp name_of) new
      → map (ranked_entry true name_of) new ≡ entries_in_order (map (ranked_entry true name_of) old)
  sorted_values old new moved sorted =
      sorted_by (kept_cmp name_of) (ranked_entry true name_of) (λ _. Unit {0})
      (λ x y kx ky later. valued x y later) kept_cmp_total old new (λ i d lt. tt) moved sorted

  -- and one by name
  pub sorted_names : (old new : List Kept) → IsPermutation old new
      → IsSorted (names_cmp name_of) new
      → map (ranked_entry false name_of) new ≡ entries_in_order (map (ranked_entry false name_of) old)
  sorted_names old new moved sorted =
      sorted_by (names_cmp name_of) (ranked_entry false name_of) (λ _. Unit {0})
      (λ x y kx ky later. named x y later) names_cmp_total old new (λ i d lt. tt) moved sorted

  -- fewer than two are in order
  pub few_sorted : (rows : List Kept) → length rows < 2
      → map (ranked_entry false name_of) rows ≡ entries_in_order (map (ranked_entry false name_of) rows)
  unfolding entries_in_order inserted
  few_sorted [] few = refl
  few_sorted (x ∷ []) few = refl
  few_sorted (x ∷ y ∷ rows) few = absurd (omega (arith, few))

  -- symbols whose keys were set and that then were moved have the same order
  pub moved_order : (place : ℕ) (rows keys new : List Kept)
      → keys ≡ map (keyed name_of place) rows → IsPermutation keys new
      → entries_in_order (map (ranked_entry false name_of) new)
      ≡ entries_in_order (map (ranked_entry false name_of) rows)
  moved_order place rows keys new is moved =
      let entry = ranked_entry false name_of in
      in_order_moved (map entry keys) (map entry new) (IsPermutation-map entry keys new moved)
      ∙ ap entries_in_order (ap (map entry) is ∙ keyed_entries name_of place rows)

-- ---- What is sorted

module _ (v : Bool) (name_of : ℕ → List ℕ) where
  abbrev rows_of : List Kept → List SymbolEntry
  rows_of list = map (ranked_entry v name_of) (filter (has_nonempty_name name_of) list)

  -- the entries are those of the symbols whose names are not empty
  entries_named : (list : List Kept) → kept_entries v name_of list ≡ rows_of list
  unfolding kept_entries
  entries_named [] = refl
  entries_named (k ∷ ks) =
      ap (λ (es : List SymbolEntry). kept_entry v name_of k ++ es) (entries_named ks)
      ∙ by_test (is_empty (name_of k.name))
    where
      by_test : (t : Bool)
          → (if t then [] else ranked_entry v name_of k ∷ []) ++ rows_of ks
          ≡ map (ranked_entry v name_of)
          (cond (not t) (k ∷ filter (has_nonempty_name name_of) ks) (filter (has_nonempty_name name_of) ks))
      by_test true = refl
      by_test false = refl

  pub entries_made : (list old new : List Kept) → old ≡ filter (has_nonempty_name name_of) list
      → map (ranked_entry v name_of) new ≡ entries_in_order (map (ranked_entry v name_of) old)
      → map (ranked_entry v name_of) new ≡ entries_in_order (kept_entries v name_of list)
  entries_made list old new made sorted =
      sorted ∙ ap entries_in_order (ap (map (ranked_entry v name_of)) made ∙ sym (entries_named list))

  -- their indexes
  pub indexes_made : (list new : List Kept)
      → map (ranked_entry v name_of) new ≡ entries_in_order (kept_entries v name_of list)
      → map (λ (k : Kept). k.index) new ≡ order_of v name_of list
  unfolding order_of
  indexes_made list new is =
      sym (map-map (λ (e : SymbolEntry). e.index) (ranked_entry v name_of) new)
      ∙ ap (map (λ (e : SymbolEntry). e.index)) is
