-- The first section that passes and links to another, as it is noted section by section.
use Rattle.std.proofs.Common.{◌≡◌, ◌≢◌, ◌==◌, ◌&&◌, ◌+◌, ◌-◌, ◌<◌, ◌≤◌, ℕ, zero, suc, Bool, true, false, not, cond, List, [], ◌∷◌, ◌++◌, length, Some, None, refl, sym, ap, ◌∙◌, inl, inr, arith}
use Rattle.std.specs.Prelude.{filter, slice_get, slice_index, slice_set, nat_lt, if◌then◌else◌}
use Rattle.std.specs.List.{range_with_len}
use Rattle.std.proofs.Math.ListN.{length-set}
use Rattle.std.proofs.lemmas.Bool.{eq-eqb, ne_eqb, lt-ltb, cases_eq, and_parts, both_ways, not-true}
use Rattle.std.proofs.lemmas.List.{get_or-set_same, get_or-set_other}
use Rattle.std.proofs.lemmas.List.Elements.{filter-append, filter_agree}
use Rattle.std.proofs.lemmas.List.FromFn.{fill_by_all}
use Rattle.elf_types.specs.declared.records.Kind.TheVariants as kinds
use Rattle.elf_types.specs.declared.constants.TheConstants.{SHT_SYMTAB_SHNDX}
use Rattle.rebuild_select.specs.elf_object.Object.{Object}
use Rattle.rebuild_select.specs.elf_object.Layout.{section_numbers}
use Rattle.rebuild_select.specs.elf_object.Sections.{is_loose, header_at, is_among, first_of, number_or_0}
use Rattle.rebuild_select.specs.rebuild_model.Followed.{extended_table, kept_from_1, has_indexes_of}
use Rattle.rebuild_select.specs.Steps.{links_to}
use Rattle.rebuild_select.proofs.SetLaws.{filter_filter, range_with_one_more}
use Rattle.rebuild_numbers.specs.Kept.Tables.{has_indexes, extended_tables, no_numbers, with_first_linking, first_linking, AreFirstLinking}

-- a number, or 0 where it is 0
zero_or : (n : ℕ) → n ≡ (if n == 0 then 0 else n)
zero_or zero = refl
zero_or (suc n) =
    sym (ap (λ (none : Bool). if none then 0 else suc n)
    (ne_eqb (suc n) 0 (λ is. omega (arith, is))))

-- ---- The first of a range that passes

-- no number of a range is below its first one
first_from : (p : ℕ → Bool) (a n k : ℕ) → slice_get (filter p (range_with_len a n)) 0 ≡ Some k
    → a ≤ k
first_from p a zero k is = let no : None ≡ Some k = is in cc
first_from p a (suc n) k is =
    by_test (p a) is (λ later. let behind : a + 1 ≤ k = first_from p (a + 1) n k later in
    omega (arith, behind))
  where
    by_test : (b : Bool)
        → slice_get (cond b (a ∷ filter p (range_with_len (a + 1) n))
        (filter p (range_with_len (a + 1) n))) 0 ≡ Some k
        → (slice_get (filter p (range_with_len (a + 1) n)) 0 ≡ Some k → a ≤ k) → a ≤ k
    by_test true is later =
        let one : Some a ≡ Some k = is in
        let same : a ≡ k = cc in omega (arith, same)
    by_test false is later = later is

-- one number more: it is the first where none was before
first_more : (l : List ℕ) (b : Bool) (s : ℕ)
    → ((k : ℕ) → slice_get l 0 ≡ Some k → 1 ≤ k)
    → number_or_0 (slice_get (l ++ cond b (s ∷ []) []) 0)
    ≡ (if number_or_0 (slice_get l 0) == 0 then (if b then s else 0)
    else number_or_0 (slice_get l 0))
first_more [] true s from = refl
first_more [] false s from = refl
first_more (x ∷ l) b s from =
    sym (ap (λ (none : Bool). if none then (if b then s else 0) else x)
    (ne_eqb x 0 (λ none. omega (arith, none, from x refl))))

module _ (o : Object) (passes : ℕ → Bool) where
  -- of the sections below the next number
  next_first : (s t : ℕ) → 1 ≤ s
      → first_linking o passes (s + 1) t
      ≡ (if first_linking o passes s t == 0 then (if links_to o passes t s then s else 0)
      else first_linking o passes s t)
  unfolding first_linking
  next_first s t from =
      let p = links_to o passes t in
      ap (λ (n : ℕ). number_or_0 (slice_get (filter p (range_with_len 1 n)) 0))
      (let next : s + 1 - 1 ≡ s - 1 + 1 = omega arith in next)
      ∙ ap (λ (l : List ℕ). number_or_0 (slice_get (filter p l) 0))
      (range_with_one_more 1 (s - 1) ∙ ap (λ (k : ℕ). range_with_len 1 (s - 1) ++ k ∷ [])
      (let at : 1 + (s - 1) ≡ s = omega arith in at))
      ∙ ap (λ (l : List ℕ). number_or_0 (slice_get l 0))
      (filter-append p (range_with_len 1 (s - 1)) (s ∷ []))
      ∙ first_more (filter p (range_with_len 1 (s - 1))) (p s) s (first_from p 1 (s - 1))

  -- ---- What is noted

  none_zero : (n t : ℕ) → slice_index (no_numbers n) t ≡ 0
  none_zero zero t = refl
  none_zero (suc n) zero = refl
  none_zero (suc n) (suc t) = none_zero n t

  none_long : (n : ℕ) → length (no_numbers n) ≡ n
  none_long zero = refl
  none_long (suc n) = ap suc (none_long n)

  pub first_none : (first : List ℕ) → first ≡ no_numbers (length o.sections)
      → AreFirstLinking o passes first 0
  unfolding first_linking
  first_none first is = record {
    long = ap length is ∙ none_long (length o.sections);
    first_is = λ t below. ap (λ (l : List ℕ). slice_index l t) is
        ∙ none_zero (length o.sections) t;
  }

  -- section 0 counts for nothing
  first_zero : (first : List ℕ) (s : ℕ) → s ≡ 0 → AreFirstLinking o passes first s
      → AreFirstLinking o passes first (s + 1)
  unfolding first_linking
  first_zero first s is are = record {
    long = are.long;
    first_is = λ t below. are.first_is t below
        ∙ ap (λ (n : ℕ). number_or_0 (first_of (links_to o passes t) (range_with_len 1 n)))
        (let none : s - 1 ≡ s + 1 - 1 = omega arith in none);
  }

  -- one that does not pass
  first_same : (first : List ℕ) (s : ℕ) → 1 ≤ s → passes s ≡ false
      → AreFirstLinking o passes first s → AreFirstLinking o passes first (s + 1)
  unfolding links_to
  first_same first s from does are = record {
    long = are.long;
    first_is = λ t below.
        are.first_is t below
        ∙ zero_or (first_linking o passes s t)
        ∙ sym (ap (λ (b : Bool). if first_linking o passes s t == 0
        then (if b && ((header_at o s).link == t) then s else 0)
        else first_linking o passes s t) does)
        ∙ sym (next_first s t from);
  }

-- ---- A section that is noted

-- at its place, and at another
noted_here : (first : List ℕ) (t s : ℕ) → t < length first
    → slice_index (if slice_index first t == 0 then slice_set first t s else first) t
    ≡ (if slice_index first t == 0 then s else slice_index first t)
noted_here first t s below = by_test (slice_index first t == 0)
  where
    by_test : (b : Bool) → slice_index (if b then slice_set first t s else first) t
        ≡ (if b then s else slice_index first t)
    by_test true = get_or-set_same first t s 0 below
    by_test false = refl

noted_other : (first : List ℕ) (link t s : ℕ) → t ≢ link
    → slice_index (if slice_index first link == 0 then slice_set first link s else first) t
    ≡ slice_index first t
noted_other first link t s other = by_test (slice_index first link == 0)
  where
    by_test : (b : Bool) → slice_index (if b then slice_set first link s else first) t
        ≡ slice_index first t
    by_test true = get_or-set_other first link t s 0 other
    by_test false = refl

within_place : (first : List ℕ) (link t s : ℕ) → t < length first
    → slice_index (if slice_index first link == 0 then slice_set first link s else first) t
    ≡ (if slice_index first t == 0 then (if link == t then s else 0) else slice_index first t)
within_place first link t s below = elim (cases_eq t link) [
  | inl same ↦ ap (λ (k : ℕ).
      slice_index (if slice_index first k == 0 then slice_set first k s else first) t) (sym same)
      ∙ noted_here first t s below
      ∙ sym (ap (λ (b : Bool). if slice_index first t == 0 then (if b then s else 0)
      else slice_index first t) (eq-eqb link t (sym same)))
  | inr other ↦ noted_other first link t s other
      ∙ zero_or (slice_index first t)
      ∙ sym (ap (λ (b : Bool). if slice_index first t == 0 then (if b then s else 0)
      else slice_index first t) (ne_eqb link t (λ same. other (sym same))))
]

past_place : (first : List ℕ) (link t s : ℕ) → t < length first → nat_lt link (length first) ≡ false
    → slice_index first t
    ≡ (if slice_index first t == 0 then (if link == t then s else 0) else slice_index first t)
past_place first link t s below past =
    zero_or (slice_index first t)
    ∙ sym (ap (λ (b : Bool). if slice_index first t == 0 then (if b then s else 0)
    else slice_index first t)
    (ne_eqb link t (λ same. both_ways (nat_lt link (length first)) past
    (lt-ltb link (length first) (omega (arith, same, below))))))

noted : (first : List ℕ) (link t s : ℕ) → t < length first
    → slice_index (with_first_linking first link s) t
    ≡ (if slice_index first t == 0 then (if link == t then s else 0) else slice_index first t)
unfolding with_first_linking
noted first link t s below = by_test (nat_lt link (length first)) refl
  where
    by_test : (b : Bool) → nat_lt link (length first) ≡ b
        → slice_index (if b
        then (if slice_index first link == 0 then slice_set first link s else first)
        else first) t
        ≡ (if slice_index first t == 0 then (if link == t then s else 0) else slice_index first t)
    by_test true is = within_place first link t s below
    by_test false is = past_place first link t s below is

noted_long : (first : List ℕ) (link s : ℕ) → length (with_first_linking first link s) ≡ length first
unfolding with_first_linking
noted_long first link s = by_tests (nat_lt link (length first)) (slice_index first link == 0)
  where
    by_tests : (b c : Bool)
        → length (if b then (if c then slice_set first link s else first) else first)
        ≡ length first
    by_tests true true = length-set first link s
    by_tests true false = refl
    by_tests false c = refl

module _ (o : Object) (passes : ℕ → Bool) (first : List ℕ) (s link : ℕ) where
  first_noted : 1 ≤ s → passes s ≡ true → link ≡ (header_at o s).link
      → AreFirstLinking o passes first s → AreFirstLinking o passes (with_first_linking first link s) (s + 1)
  unfolding links_to
  first_noted from does is are = record {
    long = noted_long first link s ∙ are.long;
    first_is = λ t below.
        noted first link t s (omega (arith, are.long, below))
        ∙ ap (λ (n : ℕ). if n == 0 then (if link == t then s else 0) else n)
        (are.first_is t below)
        ∙ ap (λ (b : Bool). if first_linking o passes s t == 0 then (if b then s else 0)
        else first_linking o passes s t)
        (ap (λ (n : ℕ). n == t) is
        ∙ ap (λ (b : Bool). b && ((header_at o s).link == t)) (sym does))
        ∙ sym (next_first o passes s t from);
  }

  -- what a section does that counts, and one that does not
  pub step_noted : (not (s == 0) && passes s) ≡ true → link ≡ (header_at o s).link
      → AreFirstLinking o passes first s → AreFirstLinking o passes (with_first_linking first link s) (s + 1)
  step_noted counts is are =
      let parts = and_parts (not (s == 0)) (passes s) counts in
      let some : s ≢ 0 =
      λ none. both_ways (s == 0) (not-true (s == 0) parts.0) (eq-eqb s 0 none) in
      first_noted (omega (arith, some)) parts.1 is are

pub step_same : (o : Object) (passes : ℕ → Bool) (first : List ℕ) (s : ℕ)
    → (not (s == 0) && passes s) ≡ false → AreFirstLinking o passes first s
    → AreFirstLinking o passes first (s + 1)
step_same o passes first s counts are = elim (cases_eq s 0) [
  | inl none ↦ first_zero o passes first s none are
  | inr some ↦ first_same o passes first s (omega (arith, some))
      (ap (λ (b : Bool). not b && passes s) (sym (ne_eqb s 0 some)) ∙ counts) are
]

-- ---- All sections

and_assoc : (a b c : Bool) → ((a && b) && c) ≡ (a && (b && c))
and_assoc true b c = refl
and_assoc false b c = refl

module _ (o : Object) (removed : List ℕ) where
  all_linking : (t : ℕ) → first_linking o (has_indexes o removed) (length o.sections) t
      ≡ number_or_0 (extended_table o removed t)
  unfolding first_linking extended_table kept_from_1 has_indexes links_to
  all_linking t =
      let kept = λ (s : ℕ). not (is_among removed s) in
      let has = λ (s : ℕ). has_indexes_of t (header_at o s) in
      ap (λ (l : List ℕ). number_or_0 (slice_get l 0))
      (filter_agree (links_to o (has_indexes o removed) t) (λ s. kept s && has s)
      (λ s. and_assoc (kept s) (is_loose SHT_SYMTAB_SHNDX kinds.Word (header_at o s))
      ((header_at o s).link == t)) (section_numbers o)
      ∙ sym (filter_filter kept has (section_numbers o)))

  pub tables_are : (first : List ℕ)
      → AreFirstLinking o (has_indexes o removed) first (length o.sections)
      → first ≡ extended_tables o removed
  unfolding extended_tables
  tables_are first are =
      fill_by_all (λ t. number_or_0 (extended_table o removed t)) first (length o.sections) 0
      are.long (λ t below. are.first_is t below ∙ all_linking t)
