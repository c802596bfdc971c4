-- The names of the kept sections below a number, and their places in the whole table.
use Rattle.std.proofs.Common.{◌≡◌, ◌==◌, ◌&&◌, ◌+◌, ◌-◌, ◌^◌, ◌<◌, ◌≤◌, ◌++◌, ℕ, zero, suc, Bool, true, false, not, cond, List, [], ◌∷◌, length, length-append, map, append-nil, refl, sym, ap, ◌∙◌, subst, inl, inr, arith}
use Rattle.std.specs.Prelude.{filter, nat_lt, if◌then◌else◌}
use Rattle.std.specs.List.{range_with_len, list_any}
use Rattle.std.specs.Str.{bytes_eq}
use Rattle.std.proofs.lemmas.Bool.{eq-eqb, ne_eqb, lt-ltb, cases_eq, and_from, and_parts, both_ways, not-true}
use Rattle.std.proofs.lemmas.Grind.{flat_map-append}
use Rattle.std.proofs.lemmas.List.{map-append}
use Rattle.std.proofs.lemmas.List.Elements.{filter-append}
use Rattle.std.proofs.lemmas.List.FromFn.{map-range_with_len_more}
use Rattle.strtab_shared.specs.strtab_build.Table.{distinct, strings, table, place_of}
use Rattle.strtab_shared.proofs.strtab_build.DistinctLemmas.{same_refl, distinct-append, distinct-append_left, fold-behind}
use Rattle.strtab_shared.proofs.strtab_build.TableLemmas.{place_of-append, place_of-distinct, table_same}
use Rattle.rebuild_numbers.specs.elf_object.Object.{Object}
use Rattle.rebuild_numbers.specs.elf_object.Strings.{section_name, or_empty_name}
use Rattle.rebuild_numbers.specs.elf_object.Sections.{is_among}
use Rattle.rebuild_numbers.specs.rebuild_model.Followed.{kept_from_1}
use Rattle.rebuild_numbers.specs.rebuild_model.Rebuilt.{kept_names}
use Rattle.rebuild_numbers.proofs.rebuild_select.SetLaws.{range_with_one_more}
use Rattle.rebuild_numbers.specs.Kept.Kept.{is_left}
use Rattle.rebuild_numbers.proofs.kept.KeptLaws.{kept_among}
use Rattle.rebuild_names.specs.declared.building.Making.{Making}
use Rattle.rebuild_names.specs.Names.{name_place, names_below, HasNameAdded, AddsBy, AddsSection, AreNamesAdded}
use Rattle.rebuild_names.proofs.KnownLaws.{any_last}

-- ---- Ranges

range_split : (a m k : ℕ)
    → range_with_len a (m + k) ≡ range_with_len a m ++ range_with_len (a + m) k
range_split a zero k =
    ap (λ (n : ℕ). range_with_len a n) (let none : zero + k ≡ k = omega arith in none)
    ∙ ap (λ (n : ℕ). range_with_len n k) (let at : a ≡ a + zero = omega arith in at)
range_split a (suc m) k =
    ap (λ (n : ℕ). range_with_len a n)
    (let next : suc m + k ≡ suc (m + k) = omega arith in next)
    ∙ ap (λ (l : List ℕ). a ∷ l) (range_split (a + 1) m k
    ∙ ap (λ (n : ℕ). range_with_len (a + 1) m ++ range_with_len n k)
    (let at : a + 1 + m ≡ a + suc m = omega arith in at))

-- ---- Tables

-- with more names a table is no shorter
strings_append : (a b : List (List ℕ)) → strings (a ++ b) ≡ strings a ++ strings b
unfolding strings
strings_append a b = flat_map-append (λ name. name ++ 0 ∷ []) a b

table_longer : (names more : List (List ℕ))
    → length (table names) ≤ length (table (names ++ more))
unfolding table
table_longer names more =
    let behind = fold-behind (distinct names) more in
    let all : distinct (names ++ more) ≡ distinct names ++ behind.0 =
    distinct-append names more ∙ behind.1 in
    let long : length (strings (distinct (names ++ more)))
    ≡ length (strings (distinct names)) + length (strings behind.0) =
    ap (λ (l : List (List ℕ)). length (strings l)) all
    ∙ ap length (strings_append (distinct names) behind.0)
    ∙ length-append (strings (distinct names)) (strings behind.0) in
    let longer : suc (length (strings (distinct names)))
    ≤ suc (length (strings (distinct (names ++ more)))) = omega (arith, long) in longer

abbrev name_of : Object → ℕ → List ℕ
name_of o s = or_empty_name (section_name o s)

abbrev keeps : List ℕ → ℕ → Bool
keeps removed s = not (is_among removed s)

-- a table without names
distinct_none : distinct [] ≡ []
unfolding distinct
distinct_none = refl

table_none : length (table []) ≡ 1
unfolding table strings distinct
table_none = refl

module _ (o : Object) (removed : List ℕ) where
  -- ---- The names below a number

  below_none : names_below o removed 0 ≡ []
  unfolding names_below
  below_none = refl

  below_one : names_below o removed (0 + 1) ≡ []
  unfolding names_below
  below_one = refl

  below_all : names_below o removed (length o.sections) ≡ kept_names o removed
  unfolding names_below kept_names kept_from_1
  below_all = refl

  -- one section more
  below_next : (s : ℕ) → 1 ≤ s → names_below o removed (s + 1)
      ≡ names_below o removed s ++ (if keeps removed s then name_of o s ∷ [] else [])
  unfolding names_below
  below_next s from =
      let names = λ (l : List ℕ). map (λ t. or_empty_name (section_name o t)) l in
      let kept = λ (l : List ℕ). filter (λ t. not (is_among removed t)) l in
      ap (λ (n : ℕ). names (kept (range_with_len 1 n)))
      (let next : s + 1 - 1 ≡ s - 1 + 1 = omega arith in next)
      ∙ ap (λ (l : List ℕ). names (kept l))
      (range_with_one_more 1 (s - 1) ∙ ap (λ (k : ℕ). range_with_len 1 (s - 1) ++ k ∷ [])
      (let at : 1 + (s - 1) ≡ s = omega arith in at))
      ∙ ap names (filter-append (λ t. not (is_among removed t)) (range_with_len 1 (s - 1)) (s ∷ []))
      ∙ map-append (λ t. or_empty_name (section_name o t)) (kept (range_with_len 1 (s - 1)))
      (kept (s ∷ []))
      ∙ ap (λ (l : List (List ℕ)). names (kept (range_with_len 1 (s - 1))) ++ l)
      (by_test (not (is_among removed s)))
    where
      by_test : (b : Bool)
          → map (λ t. or_empty_name (section_name o t)) (cond b (s ∷ []) [])
          ≡ (if b then or_empty_name (section_name o s) ∷ [] else [])
      by_test true = refl
      by_test false = refl

  left_parts : (s : ℕ) → is_left o removed s ≡ true → (1 ≤ s) × (keeps removed s ≡ true)
  unfolding is_left
  left_parts s is =
      let parts = and_parts (not (s == 0) && nat_lt s (length o.sections))
      (not (is_among removed s)) is in
      let some = (and_parts (not (s == 0)) (nat_lt s (length o.sections)) parts.0).0 in (
        positive s (λ none. both_ways (s == 0) (not-true (s == 0) some) (eq-eqb s 0 none)),
        parts.1,
      )
    where
      positive : (s : ℕ) → (s ≡ 0 → ⊥) → 1 ≤ s
      positive s other = omega (arith, other)

  kept_parts : (s : ℕ) → is_among (kept_from_1 o removed) s ≡ true
      → (1 ≤ s) × (keeps removed s ≡ true)
  kept_parts s is = left_parts s (sym (kept_among o removed s) ∙ is)

  -- of one that is there and not kept
  not_left : (s : ℕ) → 1 ≤ s → s < length o.sections → is_left o removed s ≡ false
      → keeps removed s ≡ false
  unfolding is_left
  not_left s from below is =
      sym (ap (λ (b : Bool). b && not (is_among removed s))
      (and_from (not (s == 0)) (nat_lt s (length o.sections))
      (ap not (ne_eqb s 0 (λ none. omega (arith, none)))) (lt-ltb s (length o.sections) below)))
      ∙ is

  below_kept : (s : ℕ) → is_among (kept_from_1 o removed) s ≡ true
      → names_below o removed (s + 1) ≡ names_below o removed s ++ name_of o s ∷ []
  below_kept s is =
      let parts = kept_parts s is in
      below_next s parts.0
      ∙ ap (λ (b : Bool). names_below o removed s ++ (if b then name_of o s ∷ [] else [])) parts.1

  below_same : (s : ℕ) → s < length o.sections → is_among (kept_from_1 o removed) s ≡ false
      → names_below o removed (s + 1) ≡ names_below o removed s
  below_same s below is = elim (cases_eq s 0) [
    | inl none ↦ ap (λ (k : ℕ). names_below o removed (k + 1)) none
        ∙ below_one ∙ sym below_none
        ∙ ap (λ (k : ℕ). names_below o removed k) (sym none)
    | inr some ↦ below_next s (omega (arith, some))
        ∙ ap (λ (b : Bool). names_below o removed s ++ (if b then name_of o s ∷ [] else []))
        (not_left s (omega (arith, some)) below (sym (kept_among o removed s) ∙ is))
        ∙ append-nil (names_below o removed s)
  ]

  -- all names begin with those below a number
  names_after : ℕ → List (List ℕ)
  names_after s =
      map (λ t. or_empty_name (section_name o t))
      (filter (λ t. not (is_among removed t)) (range_with_len (1 + s) (length o.sections - 1 - s)))

  all_names : (s : ℕ) → s < length o.sections
      → kept_names o removed ≡ names_below o removed (s + 1) ++ names_after s
  unfolding kept_names kept_from_1 names_below names_after
  all_names s below =
      let names = λ (l : List ℕ). map (λ t. or_empty_name (section_name o t)) l in
      let kept = λ (l : List ℕ). filter (λ t. not (is_among removed t)) l in
      let rest = range_with_len (1 + s) (length o.sections - 1 - s) in
      ap (λ (n : ℕ). names (kept (range_with_len 1 n)))
      (let all : length o.sections - 1 ≡ s + (length o.sections - 1 - s) = omega arith in all)
      ∙ ap (λ (l : List ℕ). names (kept l))
      (range_split 1 s (length o.sections - 1 - s))
      ∙ ap names (filter-append (λ t. not (is_among removed t)) (range_with_len 1 s) rest)
      ∙ map-append (λ t. or_empty_name (section_name o t)) (kept (range_with_len 1 s)) (kept rest)
      ∙ ap (λ (n : ℕ). names (kept (range_with_len 1 n)) ++ names (kept rest))
      (let same : s ≡ s + 1 - 1 = omega arith in same)

  -- ---- The place of a name

  place_below : (s : ℕ) → s < length o.sections → is_among (kept_from_1 o removed) s ≡ true
      → place_of (name_of o s) (names_below o removed (s + 1)) ≡ name_place o removed s
  unfolding name_place
  place_below s below kept =
      let name = or_empty_name (section_name o s) in
      let front = names_below o removed (s + 1) in
      let there : list_any (bytes_eq name) front ≡ true =
      ap (λ (l : List (List ℕ)). list_any (bytes_eq name) l) (below_kept s kept)
      ∙ any_last (bytes_eq name) (names_below o removed s) name (same_refl name) in
      sym (place_of-append name front (names_after s) there)
      ∙ ap (λ (l : List (List ℕ)). place_of name l) (sym (all_names s below))
      ∙ sym (ap (λ (b : Bool). if b then place_of name (kept_names o removed) else 0) kept)

  place_none : (s : ℕ) → is_among (kept_from_1 o removed) s ≡ false → 0 ≡ name_place o removed s
  unfolding name_place
  place_none s kept =
      sym (ap (λ (b : Bool).
      if b then place_of (or_empty_name (section_name o s)) (kept_names o removed) else 0) kept)

  places_more : (places more : List ℕ) (s place : ℕ)
      → places ≡ map (name_place o removed) (range_with_len 0 s)
      → more ≡ places ++ place ∷ [] → place ≡ name_place o removed s
      → more ≡ map (name_place o removed) (range_with_len 0 (s + 1))
  places_more places more s place so_far is at =
      is
      ∙ ap (λ (l : List ℕ). l ++ place ∷ []) so_far
      ∙ ap (λ (k : ℕ). map (name_place o removed) (range_with_len 0 s) ++ k ∷ []) at
      ∙ sym (map-range_with_len_more (name_place o removed) 0 s s (omega arith))

  -- ---- One section more

  fits_none : length (table (names_below o removed 0)) ≤ 2 ^ 32 - 1
  fits_none =
      let one : length (table (names_below o removed 0)) ≡ 1 =
      ap (λ (l : List (List ℕ)). length (table l)) below_none ∙ table_none in
      omega (arith, one)

  pub added_none : (making : Making) → making.strings ≡ [] → making.places ≡ []
      → AreNamesAdded o removed making 0
  added_none making strings places = record {
    strings = strings ∙ sym (ap distinct below_none ∙ distinct_none);
    places = places;
    fits = fits_none;
  }

  -- the table of the names so far with one more is that of the next names
  table_next : (old : Making) (s : ℕ) → AreNamesAdded o removed old s
      → is_among (kept_from_1 o removed) s ≡ true
      → table (old.strings ++ name_of o s ∷ []) ≡ table (names_below o removed (s + 1))
  table_next old s are kept =
      table_same (old.strings ++ name_of o s ∷ []) (names_below o removed (s + 1))
      (ap (λ (l : List (List ℕ)). distinct (l ++ name_of o s ∷ [])) are.strings
      ∙ distinct-append_left (names_below o removed s) (name_of o s ∷ [])
      ∙ ap distinct (sym (below_kept s kept)))

  -- a section that is kept
  kept_more : (old new : Making) (s : ℕ) → s < length o.sections
      → is_among (kept_from_1 o removed) s ≡ true → AreNamesAdded o removed old s
      → HasNameAdded o s old new true → AreNamesAdded o removed new (s + 1)
  kept_more old new s below kept are has =
      let name = name_of o s in
      let strings_are : new.strings ≡ distinct (names_below o removed (s + 1)) =
      has.0
      ∙ ap (λ (l : List (List ℕ)). distinct (l ++ name ∷ [])) are.strings
      ∙ distinct-append_left (names_below o removed s) (name ∷ [])
      ∙ ap distinct (sym (below_kept s kept)) in
      record {
        strings = strings_are;
        places = places_more old.places new.places s (place_of name new.strings) are.places has.1
            (ap (λ (l : List (List ℕ)). place_of name l) strings_are
            ∙ place_of-distinct name (names_below o removed (s + 1))
            ∙ place_below s below kept);
        fits = subst (λ (l : List ℕ). length l ≤ 2 ^ 32 - 1) (table_next old s are kept) has.2;
      }

  -- and one that is not
  other_more : (old new : Making) (s : ℕ) → s < length o.sections
      → is_among (kept_from_1 o removed) s ≡ false → AreNamesAdded o removed old s
      → AddsBy false o s old new true → AreNamesAdded o removed new (s + 1)
  other_more old new s below kept are has =
      let same = sym (below_same s below kept) in
      record {
        strings = has.1 ∙ are.strings ∙ ap distinct same;
        places = places_more old.places new.places s 0 are.places has.2 (place_none s kept);
        fits = subst (λ (l : List (List ℕ)). length (table l) ≤ 2 ^ 32 - 1) same are.fits;
      }

  pub added_more : (old new : Making) (s : ℕ) → s < length o.sections
      → AreNamesAdded o removed old s → AddsSection o removed s old new true
      → AreNamesAdded o removed new (s + 1)
  added_more old new s below are adds = by_kept (is_among (kept_from_1 o removed) s) refl adds
    where
      by_kept : (b : Bool) → is_among (kept_from_1 o removed) s ≡ b → AddsBy b o s old new true
          → AreNamesAdded o removed new (s + 1)
      by_kept true kept has = kept_more old new s below kept are has
      by_kept false kept has = other_more old new s below kept are has

  -- ---- A table that is too large

  too_many : (old new : Making) (s : ℕ) → s < length o.sections
      → is_among (kept_from_1 o removed) s ≡ true → AreNamesAdded o removed old s
      → HasNameAdded o s old new false → 2 ^ 32 - 1 < length (table (kept_names o removed))
  too_many old new s below kept are large =
      let here : 2 ^ 32 - 1 < length (table (names_below o removed (s + 1))) =
      subst (λ (l : List ℕ). 2 ^ 32 - 1 < length l) (table_next old s are kept) large in
      let longer = table_longer (names_below o removed (s + 1)) (names_after s) in
      let all : length (table (names_below o removed (s + 1) ++ names_after s))
      ≡ length (table (kept_names o removed)) =
      ap (λ (l : List (List ℕ)). length (table l)) (sym (all_names s below)) in
      omega (arith, here, longer, all)

  pub too_large : (old new : Making) (s : ℕ) → s < length o.sections
      → AreNamesAdded o removed old s → AddsSection o removed s old new false
      → 2 ^ 32 - 1 < length (table (kept_names o removed))
  too_large old new s below are adds = by_kept (is_among (kept_from_1 o removed) s) refl adds
    where
      by_kept : (b : Bool) → is_among (kept_from_1 o removed) s ≡ b → AddsBy b o s old new false
          → 2 ^ 32 - 1 < length (table (kept_names o removed))
      by_kept true kept large = too_many old new s below kept are large
      by_kept false kept has = absurd (let no : false ≡ true = has.0 in cc)

  -- ---- All sections

  pub all_strings : (making : Making) → AreNamesAdded o removed making (length o.sections)
      → making.strings ≡ distinct (kept_names o removed)
  all_strings making are = are.strings ∙ ap distinct below_all

  pub all_fit : (making : Making) → AreNamesAdded o removed making (length o.sections)
      → length (table (kept_names o removed)) ≤ 2 ^ 32 - 1
  all_fit making are =
      subst (λ (l : List (List ℕ)). length (table l) ≤ 2 ^ 32 - 1) below_all are.fits
