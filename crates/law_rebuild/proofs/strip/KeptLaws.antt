-- The sections that are kept: how many they are, that section 0 is the first of them, and that
-- their new numbers are small.
use Rattle.std.proofs.Common.{◌≡◌, ℕ, zero, suc, ◌+◌, ◌-◌, ◌^◌, ◌<◌, ◌≤◌, Bool, true, false, not, cond, List, ◌∷◌, length, Option, Some, None, refl, sym, ap, ◌∙◌, subst, arith, lit<}
use Rattle.std.specs.Prelude.{All, filter, nat_eq, if◌then◌else◌, ◌==◌, ◌||◌}
use Rattle.std.specs.List.{range_with_len, list_any, position}
use Rattle.std.proofs.lemmas.Bool.{ne_eqb}
use Rattle.std.proofs.lemmas.List.Elements.{All-weaker, All-filter, All-from_get_or}
use Rattle.std.proofs.lemmas.List.Filters.{length-filter_both}
use Rattle.std.proofs.lemmas.List.Folds.{list_any_none}
use Rattle.std.proofs.lemmas.List.FromFn.{length-range_with_len, get_or-range_with_len}
use Rattle.std.proofs.lemmas.List.Quantifiers.{position-Some}
use Rattle.hash_model.specs.elf_object.Object.{Object}
use Rattle.hash_model.specs.elf_object.Layout.{section_numbers}
use Rattle.hash_model.specs.elf_object.Valid.{IsObject}
use Rattle.hash_model.specs.elf_object.Sections.{is_among, number_or_0}
use Rattle.rebuild_model.specs.Removed.{removable, with_found, with_followers, removed_sections, removed_by_name, has_removed_users}
use Rattle.rebuild_model.specs.Followed.{kept_sections, kept_from_1, renumbering, renumbered, is_section_number, followed}
use Rattle.law_rebuild.specs.Strip.Made.{FirstStays}

-- ---- Ranges

-- a number of a range
abbrev pub IsInRange : ℕ → ℕ → ℕ → Type 0
IsInRange from end s = (from ≤ s) × (s < end)

pub range_within : (a n : ℕ) → All (λ s. IsInRange a (a + n) s) (range_with_len a n)
range_within a n =
    All-from_get_or (λ s. IsInRange a (a + n) s) (range_with_len a n) 0 (λ i h.
    let len = length-range_with_len a n in
    let below : i < n = omega (arith, h, len) in
    let at = get_or-range_with_len a n i 0 below in
    let both : IsInRange a (a + n) (a + i) = (omega arith, omega (arith, below)) in
    subst (λ (s : ℕ). IsInRange a (a + n) s) (sym at) both)

-- the sections from 1 on
pub numbers_in_range : (o : Object)
    → All (λ s. IsInRange 1 (length o.sections) s) (section_numbers o)
numbers_in_range o =
    All-weaker (λ s. IsInRange 1 (1 + (length o.sections - 1)) s)
    (λ s. IsInRange 1 (length o.sections) s)
    (λ s is. (is.0, omega (arith, is.0, is.1)))
    (section_numbers o) (range_within 1 (length o.sections - 1))

-- ---- Which sections are kept

pub kept_few : (o : Object) (removed : List ℕ)
    → length (kept_sections o removed) ≤ length o.sections
unfolding kept_sections
kept_few o removed =
    let keep = λ (s : ℕ). not (is_among removed s) in
    let gone = λ (s : ℕ). not (not (is_among removed s)) in
    let few : length (filter keep (range_with_len 0 (length o.sections))) ≤ length o.sections =
    omega (
      arith,
      length-filter_both keep gone (λ s. refl) (range_with_len 0 (length o.sections)),
      length-range_with_len 0 (length o.sections),
    ) in few

pub kept_in_range : (o : Object) (removed : List ℕ)
    → All (λ s. IsInRange 1 (length o.sections) s) (kept_from_1 o removed)
unfolding kept_from_1
kept_in_range o removed =
    All-filter (λ s. not (is_among removed s)) (λ s. IsInRange 1 (length o.sections) s)
    (section_numbers o) (numbers_in_range o)

-- a range from 0 on, of which the first number passes
first_passes : (keep : ℕ → Bool) (n : ℕ) → keep 0 ≡ true → 0 < n
    → filter keep (range_with_len 0 n) ≡ 0 ∷ filter keep (range_with_len 1 (n - 1))
first_passes keep zero passes some = absurd (omega arith)
first_passes keep (suc n) passes some =
    let less : n ≡ suc n - 1 = omega arith in
    ap (λ (b : Bool).
    cond b (0 ∷ filter keep (range_with_len 1 n)) (filter keep (range_with_len 1 n))) passes
    ∙ ap (λ (k : ℕ). 0 ∷ filter keep (range_with_len 1 k)) less

pub kept_first : (o : Object) (removed : List ℕ) → is_among removed 0 ≡ false
    → 0 < length o.sections → kept_sections o removed ≡ 0 ∷ kept_from_1 o removed
unfolding kept_sections kept_from_1
kept_first o removed stays some =
    first_passes (λ s. not (is_among removed s)) (length o.sections) (ap not stays) some

-- ---- New numbers

pub followed_small : (o : Object) (removed : List ℕ) (n : ℕ) → IsObject o → n < 2 ^ 32
    → followed (renumbering o removed) n < 2 ^ 32
unfolding followed renumbered
followed_small o removed n ok small = by_test (is_section_number (renumbering o removed) n)
  where
    by_place : (place : Option ℕ) → position (nat_eq n) (kept_sections o removed) ≡ place
        → number_or_0 place < 2 ^ 32
    by_place None e = lit< tt
    by_place (Some k) e =
        let stands = position-Some (nat_eq n) (kept_sections o removed) k 0 e in
        let few = kept_few o removed in
        let count = ok.section_count in
        omega (arith, stands.0, few, count)

    by_test : (b : Bool)
        → (if b then number_or_0 (position (nat_eq n) (kept_sections o removed)) else n) < 2 ^ 32
    by_test true = by_place (position (nat_eq n) (kept_sections o removed)) refl
    by_test false = small

-- ---- Section 0 stays

found_without_first : (o : Object) (finds : List ℕ → ℕ → Bool) (removed : List ℕ)
    → is_among (with_found o finds removed) 0 ≡ false
unfolding is_among with_found removable
found_without_first o finds removed =
    list_any_none (nat_eq 0)
    (filter (λ s. list_any (nat_eq s) removed || finds removed s)
    (filter (λ s. not (s == o.header.shstrndx)) (section_numbers o)))
    (All-filter (λ s. list_any (nat_eq s) removed || finds removed s)
    (λ s. nat_eq 0 s ≡ false) (filter (λ s. not (s == o.header.shstrndx)) (section_numbers o))
    (All-filter (λ s. not (s == o.header.shstrndx)) (λ s. nat_eq 0 s ≡ false) (section_numbers o)
    (All-weaker (λ s. IsInRange 1 (length o.sections) s) (λ s. nat_eq 0 s ≡ false)
    (λ s is. ne_eqb 0 s (λ none. omega (arith, none, is.0))) (section_numbers o)
    (numbers_in_range o))))

followers_without_first : (o : Object) (symbols_too : Bool) (removed : List ℕ)
    → is_among (with_followers o symbols_too removed) 0 ≡ false
unfolding with_followers
followers_without_first o symbols_too removed = found_without_first o (has_removed_users o) _

pub first_stays : FirstStays
unfolding removed_sections removed_by_name
first_stays = record {
  strip = λ debug_only names o. followers_without_first o (not debug_only) _;
  copy = λ names o. followers_without_first o false _;
}
