-- What a walk over the sections of an object finds: the definition's list.
use Rattle.std.proofs.Common.{◌≡◌, ◌==◌, ◌&&◌, ◌||◌, ◌+◌, ◌-◌, ◌<◌, ℕ, zero, suc, Bool, true, false, not, List, [], ◌∷◌, ◌++◌, length, map, refl, sym, ap, ◌∙◌, inl, inr, length-append, ◌⊎◌, arith}
use Rattle.std.specs.Prelude.{filter}
use Rattle.std.specs.List.{range_with_len}
use Rattle.std.proofs.lemmas.Bool.{and_right, ne_eqb}
use Rattle.std.proofs.lemmas.List.FromFn.{map-range_with_len_more}
use Rattle.rebuild_model.specs.elf_object.Object.{Object}
use Rattle.rebuild_model.specs.elf_object.Layout.{section_numbers}
use Rattle.rebuild_model.specs.elf_object.Due.{all_sections}
use Rattle.rebuild_model.specs.elf_object.Sections.{is_among}
use Rattle.rebuild_model.specs.Removed.{removable, with_found}
use Rattle.rebuild_select.specs.Sets.{is_marked, marked_numbers}
use Rattle.rebuild_select.specs.Steps.{may_go, goes, IsRemovable, AreMarksRemovable}
use Rattle.rebuild_select.proofs.SetLaws.{filter_filter, filter_same_on_range, one_filter, filter_among, among_numbers, numbers_map}

module _ (o : Object) where
  stays : ℕ → Bool
  stays s = not (s == o.header.shstrndx)

  -- behind section 0 only the section of the names stays
  may_behind : (s : ℕ) → 0 < s → may_go o s ≡ not (s == o.header.shstrndx)
  unfolding may_go
  may_behind s from =
      ap (λ (b : Bool). not b && not (s == o.header.shstrndx))
      (ne_eqb s 0 (λ is. omega (arith, is)))

  zero_stays : may_go o 0 ≡ false
  unfolding may_go
  zero_stays = refl

  goes_none : (finds : ℕ → Bool) (removed : List ℕ) → goes o finds removed 0 ≡ false
  unfolding goes
  goes_none finds removed =
      ap (λ (b : Bool). b && (is_among removed 0 || finds 0)) zero_stays

  goes_behind : (finds : ℕ → Bool) (removed : List ℕ) (s : ℕ) → 0 < s
      → goes o finds removed s
      ≡ (not (s == o.header.shstrndx) && (is_among removed s || finds s))
  unfolding goes
  goes_behind finds removed s from =
      ap (λ (b : Bool). b && (is_among removed s || finds s)) (may_behind s from)

  -- a mark for each section, by what a step removes
  pub marks_found : (finds : ℕ → Bool) (removed : List ℕ) (marks : List Bool)
      → marks ≡ map (goes o finds removed) (all_sections o)
      → marked_numbers marks ≡ with_found o (λ before. finds) removed
  unfolding with_found removable
  marks_found finds removed marks is =
      ap marked_numbers is
      ∙ numbers_map (goes o finds removed) (length o.sections)
      ∙ one_filter (λ s. not (s == o.header.shstrndx)) (λ s. is_among removed s || finds s)
      (goes o finds removed) (length o.sections) (goes_none finds removed)
      (λ s from below. goes_behind finds removed s from)

  -- marks of no section that stays
  pub apart_removable : (marks : List Bool) → AreMarksRemovable o marks (length o.sections)
      → IsRemovable o (marked_numbers marks)
  unfolding removable marked_numbers
  apart_removable marks are =
      sym (one_filter (λ s. not (s == o.header.shstrndx)) (is_among (marked_numbers marks))
      (is_marked marks) (length o.sections) none
      (λ s from below. one s from (is_marked marks s) refl))
      ∙ ap (λ (n : ℕ). filter (is_marked marks) (range_with_len 0 n)) (sym are.long)
    where
      none : is_marked marks 0 ≡ false
      none = by_mark (is_marked marks 0) refl
        where
          by_mark : (b : Bool) → is_marked marks 0 ≡ b → b ≡ false
          by_mark false is = refl
          by_mark true is = sym (are.apart 0 is) ∙ zero_stays

      one : (s : ℕ) → 0 < s → (b : Bool) → is_marked marks s ≡ b
          → is_marked marks s ≡ (not (s == o.header.shstrndx) && is_among (marked_numbers marks) s)
      one s from true is =
          is ∙ sym (ap (λ (b : Bool). b && is_among (marked_numbers marks) s)
          (sym (may_behind s from) ∙ are.apart s is)
          ∙ among_numbers marks s ∙ is)
      one s from false is =
          is ∙ sym (and_right (not (s == o.header.shstrndx)) (is_among (marked_numbers marks) s)
          (among_numbers marks s ∙ is))

  -- what a step removes may be removed
  pub found_removable : (finds : List ℕ → ℕ → Bool) (removed : List ℕ)
      → IsRemovable o (with_found o finds removed)
  unfolding with_found
  found_removable finds removed =
      filter_among (λ s. is_among removed s || finds removed s) (removable o)

  -- steps that agree on the sections that are there
  pub found_same : (f g : ℕ → Bool) (removed : List ℕ)
      → ((s : ℕ) → s < length o.sections → f s ≡ g s)
      → with_found o (λ before. f) removed ≡ with_found o (λ before. g) removed
  unfolding with_found removable
  found_same f g removed same =
      let h = λ (s : ℕ). not (s == o.header.shstrndx) in
      filter_filter h (λ s. is_among removed s || f s) (section_numbers o)
      ∙ filter_same_on_range (λ s. h s && (is_among removed s || f s))
      (λ s. h s && (is_among removed s || g s)) 1 (length o.sections - 1)
      (λ s from below. ap (λ (b : Bool). h s && (is_among removed s || b)) (same s (omega arith)))
      ∙ sym (filter_filter h (λ s. is_among removed s || g s) (section_numbers o))

-- ---- The loop

-- one mark more
pub marks_more : (f : ℕ → Bool) (marks : List Bool) (s : ℕ) (b : Bool)
    → marks ≡ map f (range_with_len 0 s) → b ≡ f s
    → marks ++ b ∷ [] ≡ map f (range_with_len 0 (s + 1))
marks_more f marks s b is one =
    ap (λ (l : List Bool). l ++ b ∷ []) is
    ∙ ap (λ (x : Bool). map f (range_with_len 0 s) ++ x ∷ []) one
    ∙ sym (map-range_with_len_more f 0 s s (omega arith))

-- one mark more, of a section that stays where it is not set
pub apart_more : (o : Object) (marks : List Bool) (s : ℕ) (b : Bool) → AreMarksRemovable o marks s
    → (b ≡ true → may_go o s ≡ true) → AreMarksRemovable o (marks ++ b ∷ []) (s + 1)
apart_more o marks s b are may = record {
  long = long;
  apart = λ k is. by_place k (last marks b k) is;
}
  where
    long : length (marks ++ b ∷ []) ≡ s + 1
    long = omega (arith, length-append marks (b ∷ []), are.long)

    last : (l : List Bool) (b : Bool) (k : ℕ)
        → (is_marked (l ++ b ∷ []) k ≡ is_marked l k)
        ⊎ ((k ≡ length l) × (is_marked (l ++ b ∷ []) k ≡ b))
    last [] b zero = inr (refl, refl)
    last [] b (suc k) = inl refl
    last (x ∷ l) b zero = inl refl
    last (x ∷ l) b (suc k) = elim (last l b k) [
      | inl same ↦ inl same
      | inr at ↦ inr (omega (arith, at.0), at.1)
    ]

    by_place : (k : ℕ)
        → (is_marked (marks ++ b ∷ []) k ≡ is_marked marks k)
        ⊎ ((k ≡ length marks) × (is_marked (marks ++ b ∷ []) k ≡ b))
        → is_marked (marks ++ b ∷ []) k ≡ true → may_go o k ≡ true
    by_place k (inl same) is = are.apart k (sym same ∙ is)
    by_place k (inr at) is =
        let here : k ≡ s = at.0 ∙ are.long in
        ap (may_go o) here ∙ may (sym at.1 ∙ is)

pub apart_none : (o : Object) → AreMarksRemovable o [] 0
apart_none o = record { long = refl; apart = λ k is. let no : false ≡ true = is in cc }
