-- Where the parts of an object with ELF_F_LAYOUT stand, and that what is placed from a tail on
-- stands behind it.
use Rattle.std.proofs.Common.{◌≡◌, ℕ, zero, suc, ◌+◌, ◌-◌, ◌<◌, ◌≤◌, Bool, true, false, not, cond, ◌&&◌, List, [], ◌∷◌, ◌++◌, length, get_or, Option, Some, None, refl, sym, ap, ◌∙◌, inl, inr, arith}
use Rattle.std.specs.Prelude.{nat_eq, filter, if◌then◌else◌, ◌==◌, map}
use Rattle.std.specs.List.{range_with_len, position, position_from}
use Rattle.std.specs.Option.{option_map}
use Rattle.std.proofs.lemmas.Bool.{ne_eqb, eqb-false, cases_eq, not-false}
use Rattle.std.proofs.lemmas.Iterator.Adapters.{position_from-zero}
use Rattle.std.proofs.lemmas.List.{length-append, length-map, get_or-map}
use Rattle.std.proofs.lemmas.List.Quantifiers.{position-Some}
use Rattle.hash_model.specs.elf_layout.declared.parts.PartAt.{PartAt}
use Rattle.hash_model.specs.elf_layout.Layout.{rounded_up, place_of, end_after, in_order_from, standing, length_from, length_of, positions, places_of as parts_places}
use Rattle.hash_model.specs.elf_object.Object.{Object, section_at, is_null, is_dirty}
use Rattle.hash_model.specs.elf_object.Layout.{header_part, section_part, table_part, section_numbers, parts_of, places_of, segments_place, section_place, table_place}
use Rattle.hash_model.specs.elf_object.Image.{image_length}
use Rattle.law_object.proofs.PlaceLaws.{rounded_up-ge, length_from-ge}
use Rattle.law_object.proofs.StandLaws.{row_left, row_last, length-row}
use Rattle.hash_model.specs.elf_object.Sections.{is_allocated, header_at}
use Rattle.rebuild_model.specs.Arranged.{movable, table_parts, parts_from, place_from, table_place_from}

-- ---- The caller's places

pub places_stay : (q : Object) → q.layout ≡ true
    → (places_of q).at ≡ map (λ p. p.at) (parts_of q)
unfolding places_of parts_places positions standing
places_stay q layout =
    ap (λ (b : Bool).
    map (λ p. p.at) (if b then parts_of q else in_order_from 0 (parts_of q))) layout

pub segments_place_stays : (q : Object) → q.layout ≡ true
    → segments_place (places_of q) ≡ q.header.phoff
unfolding parts_of
segments_place_stays q layout = ap (λ (l : List ℕ). get_or l 1 0) (places_stay q layout)

pub section_place_stays : (q : Object) (s : ℕ) → q.layout ≡ true → 0 < s → s < length q.sections
    → section_place (places_of q) s ≡ (section_at q s).header.offset
unfolding parts_of section_part
section_place_stays q s layout from below =
    let m = length q.sections - 1 in
    let row = map (section_part q) (range_with_len 1 (length q.sections - 1))
    ++ table_part q ∷ [] in
    let index : s + 1 ≡ suc (suc (s - 1)) = omega (arith, from) in
    let one : 1 + (s - 1) ≡ s = omega (arith, from) in
    let small : s - 1 < length q.sections - 1 = omega (arith, from, below) in
    let within : s - 1 < length (map (section_part q) (range_with_len 1 (length q.sections - 1))
    ++ table_part q ∷ []) =
    omega (arith, small, length-row (section_part q) (length q.sections - 1) (table_part q)) in
    ap (λ (l : List ℕ). get_or l (s + 1) 0) (places_stay q layout)
    ∙ ap (λ (i : ℕ). get_or (map (λ p. p.at) (parts_of q)) i 0) index
    ∙ get_or-map (λ (p : PartAt). p.at) row (s - 1) (header_part q) 0 within
    ∙ ap (λ (p : PartAt). p.at)
    (row_left (section_part q) m (table_part q) (s - 1) (header_part q) small)
    ∙ ap (λ (k : ℕ). (section_at q k).header.offset) one

pub table_place_stays : (q : Object) → q.layout ≡ true
    → table_place (places_of q) (length q.sections) ≡ q.header.shoff
unfolding parts_of
table_place_stays q layout =
    let m = length q.sections - 1 in
    let row = map (section_part q) (range_with_len 1 (length q.sections - 1))
    ++ table_part q ∷ [] in
    let index : length q.sections - 1 + 2 ≡ suc (suc (length q.sections - 1)) = omega arith in
    let within : length q.sections - 1
    < length (map (section_part q) (range_with_len 1 (length q.sections - 1))
    ++ table_part q ∷ []) =
    omega (arith, length-row (section_part q) (length q.sections - 1) (table_part q)) in
    ap (λ (l : List ℕ). get_or l (length q.sections - 1 + 2) 0) (places_stay q layout)
    ∙ ap (λ (i : ℕ). get_or (map (λ p. p.at) (parts_of q)) i 0) index
    ∙ get_or-map (λ (p : PartAt). p.at) row m (header_part q) 0 within
    ∙ ap (λ (p : PartAt). p.at)
    (row_last (section_part q) m (table_part q) m (header_part q) refl)

-- the image reaches to the end of the base
pub base_reached : (q : Object) → q.layout ≡ true → is_dirty q ≡ true
    → length q.base ≤ image_length q
unfolding image_length places_of parts_places length_of
base_reached q layout dirty = by_tests (is_dirty q) q.layout dirty layout
  where
    by_tests : (b c : Bool) → b ≡ true → c ≡ true
        → length q.base ≤ (if b
        then length_from (if c then length q.base else 0) (standing (parts_of q) c)
        else length q.base)
    by_tests true true e f = length_from-ge (length q.base) (standing (parts_of q) true)
    by_tests true false e f = cc
    by_tests false c e f = cc

-- ---- Places from a tail on

positions_from : (tail : ℕ) (ps : List PartAt) (i : ℕ) → i < length ps
    → tail ≤ get_or (positions (in_order_from tail ps)) i 0
unfolding positions in_order_from place_of end_after
positions_from tail [] i h = absurd (omega arith)
positions_from tail (p ∷ ps) zero h = rounded_up-ge tail p.align
positions_from tail (p ∷ ps) (suc i) h =
    let later = positions_from (end_after tail p) ps i (omega arith) in
    omega (arith, by_test p.filled, later)
  where
    by_test : (b : Bool) → tail ≤ (if b then rounded_up tail p.align + p.len else tail)
    by_test true = omega (arith, rounded_up-ge tail p.align)
    by_test false = omega arith

-- a section that is moved
pub moved_behind : (p : Object) (tail s place : ℕ) → place_from p tail s ≡ Some place
    → tail ≤ place
unfolding place_from parts_from
moved_behind p tail s place moved = by_position (position (nat_eq s) (movable p)) refl moved
  where
    by_position : (found : Option ℕ) → position (nat_eq s) (movable p) ≡ found
        → option_map (λ i. get_or (positions (in_order_from tail
        (map (section_part p) (movable p) ++ table_parts p))) i 0) found ≡ Some place
        → tail ≤ place
    by_position None e h = cc
    by_position (Some i) e h =
        let same : get_or (positions (in_order_from tail
        (map (section_part p) (movable p) ++ table_parts p))) i 0 ≡ place = cc in
        let there = position-Some (nat_eq s) (movable p) i 0 e in
        let inside : i < length (map (section_part p) (movable p) ++ table_parts p) =
        omega (
          arith,
          there.0,
          length-append (map (section_part p) (movable p)) (table_parts p),
          length-map (movable p) (section_part p),
        ) in
        omega (
          arith,
          same,
          positions_from tail (map (section_part p) (movable p) ++ table_parts p) i inside,
        )

-- the section header table
pub table_behind : (p : Object) (tail : ℕ) → 0 < length p.sections
    → tail ≤ table_place_from p tail
unfolding parts_from
table_behind p tail some =
    let any : (length p.sections == 0) ≡ false =
    ne_eqb (length p.sections) 0 (λ none. omega (arith, some, none)) in
    let one : length (table_parts p) ≡ 1 =
    ap (λ (b : Bool). length (if b then [] else table_part p ∷ [])) any in
    positions_from tail (map (section_part p) (movable p) ++ table_parts p) (length (movable p))
    (omega (
      arith,
      one,
      length-append (map (section_part p) (movable p)) (table_parts p),
      length-map (movable p) (section_part p),
    ))

-- ---- A section that is not moved

-- a number of a range that is not found among those that pass
not_found : (test : ℕ → Bool) (s i a n : ℕ)
    → position_from (nat_eq s) i (filter test (range_with_len a n)) ≡ None
    → a ≤ s → s < a + n → test s ≡ false
not_found test s i a zero none from below = absurd (omega arith)
not_found test s i a (suc n) none from below =
    by_test (test a) refl none (λ j. not_found test s j (a + 1) n)
  where
    by_test : (b : Bool) → test a ≡ b
        → position_from (nat_eq s) i (cond b (a ∷ filter test (range_with_len (a + 1) n))
        (filter test (range_with_len (a + 1) n))) ≡ None
        → ((j : ℕ)
        → position_from (nat_eq s) j (filter test (range_with_len (a + 1) n)) ≡ None
        → a + 1 ≤ s → s < a + 1 + n → test s ≡ false)
        → test s ≡ false
    by_test true is h later =
        let other = not_here (nat_eq s a)
        (position_from (nat_eq s) (i + 1) (filter test (range_with_len (a + 1) n))) h in
        let after : a + 1 ≤ s = omega (arith, from, eqb-false s a other.0) in
        later (i + 1) other.1 after (omega (arith, below))
      where
        not_here : (c : Bool) (found : Option ℕ) → cond c (Some i) found ≡ None
            → (c ≡ false) × (found ≡ None)
        not_here true found k = cc
        not_here false found k = (refl, k)
    by_test false is h later = elim (cases_eq s a) [
      | inl same ↦ ap test same ∙ is
      | inr other ↦ later i h (omega (arith, from, other)) (omega (arith, below))
    ]

none_mapped : (f : ℕ → ℕ) (x : Option ℕ) → option_map f x ≡ None → x ≡ None
none_mapped f None e = refl
none_mapped f (Some n) e = cc

-- it is allocated, or of type SHT_NULL
pub unmoved_allocated : (p : Object) (tail s : ℕ) → place_from p tail s ≡ None → 0 < s
    → s < length p.sections → is_null (header_at p s) ≡ false
    → is_allocated (header_at p s) ≡ true
unfolding place_from movable
unmoved_allocated p tail s unmoved from below full =
    let test : ℕ → Bool =
    λ t. not (is_null (header_at p t)) && not (is_allocated (header_at p t)) in
    let nowhere : position (nat_eq s)
    (filter (λ t. not (is_null (header_at p t)) && not (is_allocated (header_at p t)))
    (section_numbers p)) ≡ None =
    none_mapped _ _ unmoved in
    let fails = not_found test s 0 1 (length p.sections - 1)
    (sym (position_from-zero (nat_eq s) (filter test (section_numbers p))) ∙ nowhere)
    (omega (arith, from)) (omega (arith, from, below)) in
    let plain : (not false && not (is_allocated (header_at p s))) ≡ false =
    ap (λ (b : Bool). not b && not (is_allocated (header_at p s))) (sym full) ∙ fails in
    not-false (is_allocated (header_at p s)) plain
