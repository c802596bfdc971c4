-- The numbers of the sections that are kept.
use Rattle.std.proofs.Common.{◌≡◌, ◌+◌, ◌-◌, ◌<◌, ◌≤◌, ◌==◌, ◌&&◌, ◌||◌, ℕ, zero, suc, Bool, true, false, not, cond, List, [], ◌∷◌, ◌++◌, length, Some, None, refl, sym, ap, ◌∙◌, inl, inr, arith}
use Rattle.std.specs.Prelude.{All, filter, nat_eq, slice_get, if◌then◌else◌}
use Rattle.std.specs.List.{range_with_len, list_any}
use Rattle.std.proofs.lemmas.Bool.{ne_eqb, eq-eqb, cases_eq, or_right}
use Rattle.std.proofs.lemmas.List.Elements.{filter-append, All-filter}
use Rattle.std.proofs.lemmas.List.FromFn.{get_or-range_with_len, length-range_with_len}
use Rattle.rebuild_making.specs.elf_object.Object.{Object}
use Rattle.rebuild_making.specs.elf_object.Due.{all_sections}
use Rattle.rebuild_making.specs.elf_object.Layout.{section_numbers}
use Rattle.rebuild_making.specs.elf_object.Sections.{is_among}
use Rattle.rebuild_making.specs.rebuild_model.Followed.{kept_from_1, kept_sections, renumbering}
use Rattle.rebuild_numbers.specs.Numbers.{numbering_without}
use Rattle.rebuild_numbers.specs.rebuild_select.Steps.{IsRemovable}
use Rattle.rebuild_making.specs.rebuild_model.Removed.{removable}
use Rattle.rebuild_numbers.proofs.rebuild_select.SetLaws.{range_with_one_more, among_filter}
use Rattle.rebuild_keep.specs.Numbers.{kept_alone, kept_numbers_below}

-- ---- One after another

pub below_none : (removed : List ℕ) → kept_numbers_below removed 0 ≡ []
unfolding kept_numbers_below
below_none removed = refl

below_one : (removed : List ℕ) → kept_numbers_below removed (0 + 1) ≡ []
unfolding kept_numbers_below
below_one removed = refl

below_next : (removed : List ℕ) (s : ℕ) → 1 ≤ s
    → kept_numbers_below removed (s + 1)
    ≡ kept_numbers_below removed s ++ cond (not (is_among removed s)) (s ∷ []) []
unfolding kept_numbers_below
below_next removed s from =
    let kept = λ (l : List ℕ). filter (λ t. not (is_among removed t)) l in
    ap (λ (n : ℕ). kept (range_with_len 1 n))
    (let next : s + 1 - 1 ≡ s - 1 + 1 = omega arith in next)
    ∙ ap kept
    (range_with_one_more 1 (s - 1) ∙ ap (λ (k : ℕ). range_with_len 1 (s - 1) ++ k ∷ [])
    (let at : 1 + (s - 1) ≡ s = omega arith in at))
    ∙ filter-append (λ t. not (is_among removed t)) (range_with_len 1 (s - 1)) (s ∷ [])

pub below_more : (removed : List ℕ) (s : ℕ)
    → kept_numbers_below removed (s + 1) ≡ kept_numbers_below removed s ++ kept_alone removed s
below_more removed s = elim (cases_eq s 0) [
  | inl none ↦ zero_more none
  | inr some ↦ below_next removed s (omega (arith, some))
      ∙ sym (ap (λ (b : Bool). kept_numbers_below removed s
      ++ (if not b && not (is_among removed s) then s ∷ [] else [])) (ne_eqb s 0 some))
]
  where
    zero_more : s ≡ 0
        → kept_numbers_below removed (s + 1) ≡ kept_numbers_below removed s ++ kept_alone removed s
    zero_more none =
        ap (λ (n : ℕ). kept_numbers_below removed (n + 1)) none
        ∙ below_one removed
        ∙ sym (ap (λ (n : ℕ). kept_numbers_below removed n ++ kept_alone removed n) none
        ∙ ap (λ (l : List ℕ). l ++ []) (below_none removed))

pub below_all : (o : Object) (removed : List ℕ)
    → kept_numbers_below removed (length o.sections) ≡ kept_from_1 o removed
unfolding kept_numbers_below kept_from_1
below_all o removed = refl

-- ---- Those of an object

-- each is that of a section
pub kept_there : (o : Object) (removed : List ℕ)
    → All (λ s. s < length o.sections) (kept_from_1 o removed)
unfolding kept_from_1
kept_there o removed =
    All-filter (λ s. not (is_among removed s)) (λ s. s < length o.sections) (section_numbers o)
    (λ i d below.
    let long = length-range_with_len 1 (length o.sections - 1) in
    let at = get_or-range_with_len 1 (length o.sections - 1) i d (omega (arith, long, below)) in
    omega (arith, at, long, below))

-- there are fewer than sections
pub filter_few : (p : ℕ → Bool) (l : List ℕ) → length (filter p l) ≤ length l
filter_few p [] = omega arith
filter_few p (x ∷ l) = by_test (p x) (filter_few p l)
  where
    by_test : (b : Bool) → length (filter p l) ≤ length l
        → length (cond b (x ∷ filter p l) (filter p l)) ≤ length (x ∷ l)
    by_test true few = omega arith
    by_test false few = omega arith

pub kept_sections_few : (o : Object) (removed : List ℕ)
    → length (kept_from_1 o removed) ≤ length o.sections - 1
unfolding kept_from_1
kept_sections_few o removed =
    omega (
      arith,
      filter_few (λ s. not (is_among removed s)) (section_numbers o),
      length-range_with_len 1 (length o.sections - 1),
    )

-- where nothing is removed all are kept
all_stay : (l : List ℕ) → filter (λ s. not (is_among [] s)) l ≡ l
unfolding is_among
all_stay [] = refl
all_stay (s ∷ l) = ap (λ (t : List ℕ). s ∷ t) (all_stay l)

pub sections_all : (o : Object) → kept_sections o [] ≡ all_sections o
unfolding kept_sections
sections_all o = all_stay (all_sections o)

-- ---- Section 0 stays

not_in_range : (a n s : ℕ) → s < a → list_any (nat_eq s) (range_with_len a n) ≡ false
not_in_range a zero s less = refl
not_in_range a (suc n) s less =
    ap (λ (b : Bool). b || list_any (nat_eq s) (range_with_len (a + 1) n))
    (ne_eqb s a (λ same. omega (arith, same, less)))
    ∙ not_in_range (a + 1) n s (omega arith)

among_less : (p : ℕ → Bool) (l : List ℕ) (s : ℕ) → list_any (nat_eq s) l ≡ false
    → list_any (nat_eq s) (filter p l) ≡ false
among_less p l s none =
    among_filter p l s ∙ ap (λ (b : Bool). b && p s) none

pub zero_stays : (o : Object) (removed : List ℕ) → IsRemovable o removed
    → is_among removed 0 ≡ false
unfolding is_among removable
zero_stays o removed is =
    ap (λ (l : List ℕ). list_any (nat_eq 0) l) (sym is)
    ∙ among_less (λ s. list_any (nat_eq s) removed)
    (filter (λ s. not (s == o.header.shstrndx)) (section_numbers o)) 0
    (among_less (λ s. not (s == o.header.shstrndx)) (section_numbers o) 0
    (not_in_range 1 (length o.sections - 1) 0 (omega arith)))

-- the kept sections are section 0 and the others
pub kept_with_0 : (o : Object) (removed : List ℕ) → is_among removed 0 ≡ false
    → kept_sections o removed
    ≡ (if length o.sections == 0 then [] else 0 ∷ kept_from_1 o removed)
unfolding kept_sections kept_from_1
kept_with_0 o removed stays_too = by_count (length o.sections)
  where
    by_count : (n : ℕ)
        → filter (λ s. not (is_among removed s)) (range_with_len 0 n)
        ≡ (if n == 0 then [] else 0 ∷ filter (λ s. not (is_among removed s)) (range_with_len 1 (n - 1)))
    by_count zero = refl
    by_count (suc n) =
        ap (λ (b : Bool). cond b (0 ∷ filter (λ s. not (is_among removed s)) (range_with_len (0 + 1) n))
        (filter (λ s. not (is_among removed s)) (range_with_len (0 + 1) n))) (ap not stays_too)
        ∙ ap (λ (k : ℕ). 0 ∷ filter (λ s. not (is_among removed s)) (range_with_len 1 k))
        (let same : n ≡ suc n - 1 = omega arith in same)
        ∙ sym (ap (λ (b : Bool). if b then []
        else 0 ∷ filter (λ s. not (is_among removed s)) (range_with_len 1 (suc n - 1)))
        (ne_eqb (suc n) 0 (λ none. omega (arith, none))))

-- ---- Members

-- a number among others has what each has that is refused nowhere
pub first_among : (test : ℕ → Bool) (l : List ℕ) (s : ℕ) → slice_get (filter test l) 0 ≡ Some s
    → (list_any (nat_eq s) l ≡ true) × (test s ≡ true)
first_among test [] s is = let no : None ≡ Some s = is in cc
first_among test (x ∷ l) s is = by_test (test x) refl (first_among test l s) is
  where
    by_test : (b : Bool) → test x ≡ b
        → (slice_get (filter test l) 0 ≡ Some s
        → (list_any (nat_eq s) l ≡ true) × (test s ≡ true))
        → slice_get (cond b (x ∷ filter test l) (filter test l)) 0 ≡ Some s
        → (list_any (nat_eq s) (x ∷ l) ≡ true) × (test s ≡ true)
    by_test true passes rest is =
        let one : Some x ≡ Some s = is in
        let same : x ≡ s = cc in (
          ap (λ (b : Bool). b || list_any (nat_eq s) l) (eq-eqb s x (sym same)),
          ap test (sym same) ∙ passes,
        )
    by_test false passes rest is =
        let later = rest is in
        (or_right (nat_eq s x) (list_any (nat_eq s) l) later.0, later.1)

-- ---- The map of the numbers

pub numbering_told : (o : Object) (removed : List ℕ) (count : ℕ) → count ≡ length o.sections
    → numbering_without count removed ≡ renumbering o removed
unfolding numbering_without kept_sections
numbering_told o removed count is =
    ap (λ (n : ℕ). record {
      count = n;
      kept = filter (λ s. not (is_among removed s)) (range_with_len 0 n);
    }) is
