-- The first removed section that is allocated.
use Rattle.std.proofs.Common.{◌≡◌, ◌≢◌, ◌==◌, ◌&&◌, ◌+◌, ◌-◌, ◌<◌, ◌≤◌, ℕ, zero, suc, Bool, true, false, not, cond, List, ◌∷◌, length, Some, None, refl, sym, ap, ◌∙◌, inl, inr, arith}
use Rattle.std.specs.Prelude.{filter, slice_get, nat_eq}
use Rattle.std.specs.List.{range_with_len, list_any}
use Rattle.std.proofs.lemmas.Bool.{cases_eq, and_parts, and_from, and_right, both_ways}
use Rattle.elf_object.specs.Object.{Object}
use Rattle.elf_object.specs.Layout.{section_numbers}
use Rattle.elf_object.specs.Sections.{is_among, is_allocated, header_at}
use Rattle.rebuild_model.specs.Removed.{removable}
use Rattle.rebuild_model.specs.Split.{removed_allocated}
use Rattle.rebuild_join.specs.rebuild_select.Steps.{IsRemovable}
use Rattle.rebuild_join.proofs.rebuild_select.SetLaws.{filter_filter, among_filter}
use Rattle.rebuild_join.proofs.rebuild_keep.NumberLaws.{zero_stays}
use Rattle.unstrip_tool.specs.Allocated.{is_lost}

-- ---- The first number of a range that passes

first_passing : (p : ℕ → Bool) (a n s : ℕ) → a ≤ s → s < a + n
    → ((k : ℕ) → a ≤ k → k < s → p k ≡ false) → p s ≡ true
    → slice_get (filter p (range_with_len a n)) 0 ≡ Some s
first_passing p a zero s from below none here = absurd (omega arith)
first_passing p a (suc n) s from below none here = elim (cases_eq s a) [
  | inl same ↦ ap (λ (b : Bool). slice_get (cond b (a ∷ filter p (range_with_len (a + 1) n))
      (filter p (range_with_len (a + 1) n))) 0) (ap p (sym same) ∙ here)
      ∙ ap (λ (k : ℕ). Some k) (sym same)
  | inr other ↦ ap (λ (b : Bool). slice_get (cond b (a ∷ filter p (range_with_len (a + 1) n))
      (filter p (range_with_len (a + 1) n))) 0)
      (none a (omega arith) (omega (arith, from, other)))
      ∙ first_passing p (a + 1) n s (omega (arith, from, other)) (omega (arith, below))
      (λ k low high. none k (omega (arith, low)) high) here
]

none_passing : (p : ℕ → Bool) (a n : ℕ) → ((k : ℕ) → a ≤ k → k < a + n → p k ≡ false)
    → slice_get (filter p (range_with_len a n)) 0 ≡ None
none_passing p a zero none = refl
none_passing p a (suc n) none =
    ap (λ (b : Bool). slice_get (cond b (a ∷ filter p (range_with_len (a + 1) n))
    (filter p (range_with_len (a + 1) n))) 0) (none a (omega arith) (omega arith))
    ∙ none_passing p (a + 1) n (λ k low high. none k (omega (arith, low)) (omega (arith, high)))

-- ---- Of the sections

module _ (o : Object) (removed : List ℕ) (may : IsRemovable o removed) where
  -- neither is the section of the names
  abbrev stays : ℕ → Bool
  stays s = not (s == o.header.shstrndx)

  removed_stays : (s : ℕ) → is_among removed s ≡ true → stays s ≡ true
  unfolding is_among removable
  removed_stays s is =
      let passes = λ (t : ℕ). list_any (nat_eq t) removed in
      let there = λ (t : ℕ). not (t == o.header.shstrndx) in
      let l = filter there (section_numbers o) in
      let both : (list_any (nat_eq s) l && passes s) ≡ true =
      sym (among_filter passes l s) ∙ ap (λ (r : List ℕ). list_any (nat_eq s) r) may ∙ is in
      let inside : (list_any (nat_eq s) (section_numbers o) && there s) ≡ true =
      sym (among_filter there (section_numbers o) s)
      ∙ (and_parts (list_any (nat_eq s) l) (passes s) both).0 in
      (and_parts (list_any (nat_eq s) (section_numbers o)) (there s) inside).1

  lost_removed : (s : ℕ) → is_lost o removed s ≡ true → is_among removed s ≡ true
  unfolding is_lost
  lost_removed s is = (and_parts (is_among removed s) (is_allocated (header_at o s)) is).0

  -- section 0 is not removed
  lost_from : (s : ℕ) → is_lost o removed s ≡ true → 1 ≤ s
  lost_from s is =
      let some : s ≢ 0 = λ (none : s ≡ 0).
      both_ways (is_among removed s) (ap (is_among removed) none ∙ zero_stays o removed may)
      (lost_removed s is) in
      omega (arith, some)

  lost_are : filter (λ s. is_allocated (header_at o s)) removed
      ≡ filter (λ s. stays s && is_lost o removed s) (section_numbers o)
  unfolding removable is_lost
  lost_are =
      ap (λ (l : List ℕ). filter (λ s. is_allocated (header_at o s)) l) (sym may)
      ∙ filter_filter (is_among removed) (λ s. is_allocated (header_at o s))
      (filter stays (section_numbers o))
      ∙ filter_filter stays (λ s. is_among removed s && is_allocated (header_at o s))
      (section_numbers o)

  -- the first that is found
  pub lost_first : (s : ℕ) → s < length o.sections
      → ((k : ℕ) → k < s → is_lost o removed k ≡ false) → is_lost o removed s ≡ true
      → Some s ≡ removed_allocated o removed
  unfolding removed_allocated
  lost_first s below none here =
      let from = lost_from s here in
      sym (ap (λ (l : List ℕ). slice_get l 0) lost_are
      ∙ first_passing (λ t. stays t && is_lost o removed t) 1 (length o.sections - 1) s from
      (omega (arith, below, from))
      (λ k low high. and_right (stays k) (is_lost o removed k) (none k high))
      (and_from (stays s) (is_lost o removed s) (removed_stays s (lost_removed s here)) here))

  -- none is found
  pub lost_none : (s : ℕ) → length o.sections ≤ s
      → ((k : ℕ) → k < s → is_lost o removed k ≡ false) → None ≡ removed_allocated o removed
  unfolding removed_allocated
  lost_none s past none =
      sym (ap (λ (l : List ℕ). slice_get l 0) lost_are
      ∙ none_passing (λ t. stays t && is_lost o removed t) 1 (length o.sections - 1)
      (λ k low high. and_right (stays k) (is_lost o removed k)
      (none k (omega (arith, past, low, high)))))
