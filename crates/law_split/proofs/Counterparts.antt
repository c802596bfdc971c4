-- The counterpart of a section in the stripped half: that of an allocated one was made of it, and
-- the others have none.
use Rattle.std.proofs.Common.{◌≡◌, ℕ, zero, suc, ◌+◌, ◌-◌, ◌<◌, ◌≤◌, Bool, true, false, cond, List, ◌∷◌, length, get_or, Option, Some, None, refl, sym, ap, ◌∙◌, subst, arith, ◌⊎◌, inl, inr}
use Rattle.std.specs.Prelude.{filter, nat_eq, slice_get, map}
use Rattle.std.specs.List.{range_with_len, position, position_from}
use Rattle.std.proofs.lemmas.Bool.{eq-eqb, eqb-true, ne_eqb, cases_eq}
use Rattle.std.proofs.lemmas.Iterator.Adapters.{position_from-zero}
use Rattle.std.proofs.lemmas.List.{length-map, get_or-map}
use Rattle.std.proofs.lemmas.List.Elements.{All-filter, All-get_or, filter_passes}
use Rattle.std.proofs.lemmas.List.Quantifiers.{position-Some}
use Rattle.std.proofs.lemmas.Option.{slice_get-get_or, slice_get_within, get_or_from_slice_get}
use Rattle.elf_object.specs.Object.{Object}
use Rattle.elf_object.specs.Layout.{section_numbers}
use Rattle.elf_object.specs.Sections.{is_allocated, header_at}
use Rattle.rebuild_model.specs.Split.{allocated, counterpart}
use Rattle.law_rebuild.proofs.strip.KeptLaws.{IsInRange, numbers_in_range}
use Rattle.law_split.specs.Halves.{origin_number}

-- ---- A number that passes is found

found_from : (test : ℕ → Bool) (s j a n : ℕ) → a ≤ s → s < a + n → test s ≡ true
    → (i : ℕ) × (position_from (nat_eq s) j (filter test (range_with_len a n)) ≡ Some i)
found_from test s j a zero from below passes = absurd (omega (arith, from, below))
found_from test s j a (suc n) from below passes =
    by_place (cases_eq s a) (λ other i.
    found_from test s i (a + 1) n (omega (arith, from, other)) (omega (arith, below)) passes)
  where
    rest : List ℕ
    rest = filter test (range_with_len (a + 1) n)

    Found : Bool → Type 0
    Found b = (i : ℕ) × (position_from (nat_eq s) j (cond b (a ∷ rest) rest) ≡ Some i)

    Later : Type 0
    Later = (i : ℕ) → (k : ℕ) × (position_from (nat_eq s) i rest ≡ Some k)

    by_test : (s ≡ a → ⊥) → (b : Bool) → Later → Found b
    by_test other true later = (
      (later (j + 1)).0,
      ap (λ (b : Bool). cond b (Some j) (position_from (nat_eq s) (j + 1) rest))
          (ne_eqb s a other)
          ∙ (later (j + 1)).1,
    )
    by_test other false later = later j

    by_place : (s ≡ a) ⊎ (s ≡ a → ⊥) → ((s ≡ a → ⊥) → Later) → Found (test a)
    by_place (inl same) later = subst Found (sym (ap test (sym same) ∙ passes)) (
      j,
      ap (λ (b : Bool). cond b (Some j) (position_from (nat_eq s) (j + 1) rest)) (eq-eqb s a same),
    )
    by_place (inr other) later = by_test other (test a) (later other)

-- ---- Counterparts

pub counterpart_none : (stripped debug : Object) (s : ℕ) → is_allocated (header_at debug s) ≡ false
    → counterpart stripped debug s ≡ None
unfolding counterpart allocated
counterpart_none stripped debug s other = by_found (position (nat_eq s) (allocated debug)) refl
  where
    by_found : (found : Option ℕ)
        → position (nat_eq s) (filter (λ t. is_allocated (header_at debug t))
        (section_numbers debug)) ≡ found
        → ◌≡◌ {A = Option ℕ} (elim found [
          | None ↦ None
          | Some i ↦ slice_get (filter (λ t. is_allocated (header_at stripped t))
              (section_numbers stripped)) i
        ]) None
    by_found None e = refl
    by_found (Some i) e =
        let passing = filter (λ t. is_allocated (header_at debug t)) (section_numbers debug) in
        let stands = position-Some (nat_eq s) passing i 0 e in
        let same : s ≡ get_or passing i 0 = eqb-true s (get_or passing i 0) stands.1 in
        let passed = filter_passes (λ t. is_allocated (header_at debug t)) (section_numbers debug)
        i 0 stands.0 in
        let clash : true ≡ false =
        sym passed ∙ ap (λ (t : ℕ). is_allocated (header_at debug t)) (sym same) ∙ other in cc

pub record IsCounterpart (removed : List ℕ) (whole stripped debug : Object) (s : ℕ) : Type 0 where
  pub number : ℕ
  pub is : counterpart stripped debug s ≡ Some number
  pub from : 1 ≤ number
  pub below : number < length stripped.sections
  pub origin : origin_number whole removed number ≡ s

pub counterpart_some : (removed : List ℕ) (whole stripped debug : Object) (s : ℕ)
    → map (origin_number whole removed) (allocated stripped) ≡ allocated debug
    → 1 ≤ s → s < length debug.sections → is_allocated (header_at debug s) ≡ true
    → IsCounterpart removed whole stripped debug s
unfolding counterpart allocated
counterpart_some removed whole stripped debug s listed from below loaded =
    let origin = origin_number whole removed in
    let found = found_from (λ t. is_allocated (header_at debug t)) s 0 1
    (length debug.sections - 1) from (omega (arith, from, below)) loaded in
    let place : position (nat_eq s) (allocated debug) ≡ Some found.0 =
    position_from-zero (nat_eq s) (allocated debug) ∙ found.1 in
    let stands = position-Some (nat_eq s) (allocated debug) found.0 0 place in
    let same : s ≡ get_or (allocated debug) found.0 0 =
    eqb-true s (get_or (allocated debug) found.0 0) stands.1 in
    let inside : found.0 < length (allocated stripped) =
    omega (arith, stands.0, ap length listed, length-map (allocated stripped) origin) in
    let within = All-get_or (λ t. IsInRange 1 (length stripped.sections) t) (allocated stripped)
    found.0 0 inside
    (All-filter (λ t. is_allocated (header_at stripped t))
    (λ t. IsInRange 1 (length stripped.sections) t) (section_numbers stripped)
    (numbers_in_range stripped)) in
    let at : Option ℕ → Option ℕ = λ x. elim x [
      | None ↦ None
      | Some i ↦ slice_get (allocated stripped) i
    ] in
    record {
      number = get_or (allocated stripped) found.0 0;
      is = ap at place ∙ slice_get-get_or (allocated stripped) found.0 0 inside;
      from = within.0;
      below = within.1;
      origin = sym (get_or-map origin (allocated stripped) found.0 0 0 inside)
          ∙ ap (λ (l : List ℕ). get_or l found.0 0) listed
          ∙ sym same;
    }

-- a counterpart is a section from 1 on
pub counterpart_inside : (stripped debug : Object) (s t : ℕ)
    → counterpart stripped debug s ≡ Some t → (1 ≤ t) × (t < length stripped.sections)
unfolding counterpart allocated
counterpart_inside stripped debug s t is = by_found (position (nat_eq s) (allocated debug)) is
  where
    by_found : (found : Option ℕ)
        → ◌≡◌ {A = Option ℕ} (elim found [
          | None ↦ None
          | Some i ↦ slice_get (filter (λ n. is_allocated (header_at stripped n))
              (section_numbers stripped)) i
        ]) (Some t)
        → (1 ≤ t) × (t < length stripped.sections)
    by_found None e = cc
    by_found (Some i) e =
        let passing =
        filter (λ n. is_allocated (header_at stripped n)) (section_numbers stripped) in
        let inside = slice_get_within passing i t e in
        let at = get_or_from_slice_get passing i t 0 e in
        let within = All-get_or (λ n. IsInRange 1 (length stripped.sections) n) passing i 0 inside
        (All-filter (λ n. is_allocated (header_at stripped n))
        (λ n. IsInRange 1 (length stripped.sections) n) (section_numbers stripped)
        (numbers_in_range stripped)) in
        subst (λ (n : ℕ). (1 ≤ n) × (n < length stripped.sections)) at (within.0, within.1)
