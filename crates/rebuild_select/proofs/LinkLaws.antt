-- Marks of the sections to which others link.
use Rattle.std.proofs.Common.{◌≡◌, ◌≢◌, ◌==◌, ◌&&◌, ◌||◌, ◌+◌, ◌-◌, ◌<◌, ℕ, zero, suc, Bool, true, false, not, List, [], ◌∷◌, length, refl, sym, ap, ◌∙◌, inl, inr, arith}
use Rattle.std.specs.Prelude.{filter, slice_set, nat_lt, if◌then◌else◌}
use Rattle.std.specs.List.{range_with_len, list_any}
use Rattle.std.proofs.Math.ListN.{length-set}
use Rattle.std.proofs.lemmas.Bool.{eqb-true, eq-eqb, ne_eqb, lt-ltb, le-ltb, cases_lt, cases_eq, and_parts, both_ways, not-true}
use Rattle.rebuild_model.specs.elf_object.Object.{Object}
use Rattle.rebuild_model.specs.elf_object.Layout.{section_numbers}
use Rattle.rebuild_model.specs.elf_object.Sections.{header_at}
use Rattle.rebuild_select.specs.Sets.{is_marked, marked_numbers}
use Rattle.rebuild_select.specs.Steps.{links_to, linked_by}
use Rattle.rebuild_select.specs.Marking.{no_marks, with_section_marked, AreLinked}
use Rattle.rebuild_select.proofs.SetLaws.{or_false_right, filter_same_on_range}

-- ---- Marks

-- none is set at first
none_marked : (n t : ℕ) → is_marked (no_marks n) t ≡ false
none_marked zero t = refl
none_marked (suc n) zero = refl
none_marked (suc n) (suc t) = none_marked n t

none_long : (n : ℕ) → length (no_marks n) ≡ n
none_long zero = refl
none_long (suc n) = ap suc (none_long n)

-- one is set
set_marked : (marks : List Bool) (k t : ℕ) → t < length marks
    → is_marked (slice_set marks k true) t ≡ (is_marked marks t || (k == t))
set_marked [] k t below = absurd (omega arith)
set_marked (x ∷ marks) zero zero below = true_last x
  where
    true_last : (b : Bool) → true ≡ (b || true)
    true_last true = refl
    true_last false = refl
set_marked (x ∷ marks) zero (suc t) below =
    sym (ap (λ (b : Bool). is_marked marks t || b) (ne_eqb 0 (suc t) (λ is. omega (arith, is)))
    ∙ or_false_right (is_marked marks t))
set_marked (x ∷ marks) (suc k) zero below =
    sym (ap (λ (b : Bool). x || b) (ne_eqb (suc k) 0 (λ is. omega (arith, is))) ∙ or_false_right x)
set_marked (x ∷ marks) (suc k) (suc t) below =
    set_marked marks k t (omega arith)
    ∙ ap (λ (b : Bool). is_marked marks t || b) (same_next k t)
  where
    same_next : (k t : ℕ) → (k == t) ≡ (suc k == suc t)
    same_next k t = by_test (k == t) refl
      where
        by_test : (b : Bool) → (k == t) ≡ b → b ≡ (suc k == suc t)
        by_test true is = sym (eq-eqb (suc k) (suc t) (ap suc (eqb-true k t is)))
        by_test false is = sym (ne_eqb (suc k) (suc t) (λ same. differ (omega (arith, same)) is))
          where
            differ : k ≡ t → (k == t) ≡ false → ⊥
            differ same un = let yes : (k == t) ≡ true = eq-eqb k t same in cc

pub marked_more : (marks : List Bool) (k t : ℕ) → t < length marks
    → is_marked (with_section_marked marks k) t ≡ (is_marked marks t || (k == t))
unfolding with_section_marked
marked_more marks k t below = elim (cases_lt k (length marks)) [
  | inl within ↦ ap (λ (b : Bool). is_marked (if b then slice_set marks k true else marks) t)
      (lt-ltb k (length marks) within) ∙ set_marked marks k t below
  | inr past ↦ ap (λ (b : Bool). is_marked (if b then slice_set marks k true else marks) t)
      (le-ltb k (length marks) past)
      ∙ sym (ap (λ (b : Bool). is_marked marks t || b)
      (ne_eqb k t (λ is. omega (arith, is, below, past))) ∙ or_false_right (is_marked marks t))
]

pub mark_long : (marks : List Bool) (k : ℕ) → length (with_section_marked marks k) ≡ length marks
unfolding with_section_marked
mark_long marks k = by_test (nat_lt k (length marks))
  where
    by_test : (b : Bool) → length (if b then slice_set marks k true else marks) ≡ length marks
    by_test true = length-set marks k true
    by_test false = refl

-- ---- Links

any_more : (p : ℕ → Bool) (a n : ℕ)
    → list_any p (range_with_len a (suc n)) ≡ (list_any p (range_with_len a n) || p (a + n))
any_more p a zero =
    or_false_right (p a) ∙ ap p (let at : a ≡ a + 0 = omega arith in at)
any_more p a (suc n) =
    ap (λ (b : Bool). p a || b) (any_more p (a + 1) n
    ∙ ap (λ (k : ℕ). list_any p (range_with_len (a + 1) n) || p k)
    (let at : a + 1 + n ≡ a + suc n = omega arith in at))
    ∙ by_first (p a) (list_any p (range_with_len (a + 1) n)) (p (a + suc n))
  where
    by_first : (x y z : Bool) → (x || (y || z)) ≡ ((x || y) || z)
    by_first true y z = refl
    by_first false y z = refl

-- the sections below the next number
pub any_next : (p : ℕ → Bool) (s : ℕ) → 0 < s
    → list_any p (range_with_len 1 (s + 1 - 1)) ≡ (list_any p (range_with_len 1 (s - 1)) || p s)
any_next p s from =
    ap (λ (n : ℕ). list_any p (range_with_len 1 n))
    (let next : s + 1 - 1 ≡ suc (s - 1) = omega arith in next)
    ∙ any_more p 1 (s - 1)
    ∙ ap (λ (k : ℕ). list_any p (range_with_len 1 (s - 1)) || p k)
    (let at : 1 + (s - 1) ≡ s = omega arith in at)

module _ (o : Object) (passes : ℕ → Bool) where
  pub linked_none : (marks : List Bool) → marks ≡ no_marks (length o.sections)
      → AreLinked o passes marks 0
  linked_none marks is = record {
    long = ap length is ∙ none_long (length o.sections);
    marked = λ t below. ap (λ (l : List Bool). is_marked l t) is
        ∙ none_marked (length o.sections) t;
  }

  -- section 0 links to nothing
  pub linked_zero : (marks : List Bool) (s : ℕ) → s ≡ 0 → AreLinked o passes marks s
      → AreLinked o passes marks (s + 1)
  linked_zero marks s is are = record {
    long = are.long;
    marked = λ t below. are.marked t below
        ∙ ap (λ (n : ℕ). list_any (links_to o passes t) (range_with_len 1 n))
        (let none : s - 1 ≡ s + 1 - 1 = omega arith in none);
  }

  -- a section that passes marks the one to which it links
  pub linked_more : (marks : List Bool) (s link : ℕ) → 0 < s → passes s ≡ true
      → link ≡ (header_at o s).link → AreLinked o passes marks s
      → AreLinked o passes (with_section_marked marks link) (s + 1)
  unfolding links_to
  linked_more marks s link from does is are = record {
    long = mark_long marks link ∙ are.long;
    marked = λ t below.
        marked_more marks link t (omega (arith, are.long))
        ∙ ap (λ (b : Bool). b || (link == t)) (are.marked t below)
        ∙ ap (λ (b : Bool). list_any (links_to o passes t) (range_with_len 1 (s - 1)) || b)
        (ap (λ (n : ℕ). n == t) is
        ∙ ap (λ (b : Bool). b && ((header_at o s).link == t)) (sym does))
        ∙ sym (any_next (links_to o passes t) s from);
  }

  -- one that does not pass marks nothing
  pub linked_same : (marks : List Bool) (s : ℕ) → 0 < s → passes s ≡ false
      → AreLinked o passes marks s → AreLinked o passes marks (s + 1)
  unfolding links_to
  linked_same marks s from does are = record {
    long = are.long;
    marked = λ t below.
        are.marked t below
        ∙ sym (any_next (links_to o passes t) s from
        ∙ ap (λ (b : Bool). list_any (links_to o passes t) (range_with_len 1 (s - 1))
        || (b && ((header_at o s).link == t))) does
        ∙ or_false_right (list_any (links_to o passes t) (range_with_len 1 (s - 1))));
  }

  -- what a section does that counts, and one that does not
  pub step_marked : (marks : List Bool) (s link : ℕ) → (not (s == 0) && passes s) ≡ true
      → link ≡ (header_at o s).link → AreLinked o passes marks s
      → AreLinked o passes (with_section_marked marks link) (s + 1)
  step_marked marks s link counts is are =
      let parts = and_parts (not (s == 0)) (passes s) counts in
      let some : s ≢ 0 =
      λ zero_is. both_ways (s == 0) (not-true (s == 0) parts.0) (eq-eqb s 0 zero_is) in
      linked_more marks s link (omega (arith, some)) parts.1 is are

  pub step_same : (marks : List Bool) (s : ℕ) → (not (s == 0) && passes s) ≡ false
      → AreLinked o passes marks s → AreLinked o passes marks (s + 1)
  step_same marks s counts are = elim (cases_eq s 0) [
    | inl zero_is ↦ linked_zero marks s zero_is are
    | inr some ↦ linked_same marks s (omega (arith, some))
        (ap (λ (b : Bool). not b && passes s) (sym (ne_eqb s 0 some)) ∙ counts) are
  ]

  pub linked_all : (marks : List Bool) → AreLinked o passes marks (length o.sections)
      → marked_numbers marks ≡ linked_by o passes
  unfolding marked_numbers linked_by
  linked_all marks are =
      ap (λ (n : ℕ). filter (is_marked marks) (range_with_len 0 n)) are.long
      ∙ filter_same_on_range (is_marked marks)
      (λ t. list_any (links_to o passes t) (section_numbers o)) 0 (length o.sections)
      (λ t from below. are.marked t (omega arith))
