-- The numbers of the allocated sections, and which of one half is the counterpart of which of the
-- other.
use Rattle.std.proofs.Common.{◌≡◌, ℕ, zero, suc, ◌+◌, ◌-◌, ◌<◌, ◌≤◌, ◌&&◌, Bool, true, false, not, cond, List, [], ◌∷◌, ◌++◌, length, take, drop, get_or, take_all, append-nil, length-append, Option, Some, None, if◌then◌else◌, refl, sym, ap, ◌∙◌, subst, inl, inr, arith}
use Rattle.std.specs.Prelude.{All, filter, nat_eq, slice_get}
use Rattle.std.specs.List.{flat_map, position, range_with_len}
use Rattle.std.proofs.lemmas.Bool.{cases_eq, ne_eqb}
use Rattle.std.proofs.lemmas.Grind.{flat_map-append}
use Rattle.std.proofs.lemmas.List.{drop_more, map-id, take-append-drop, take_more}
use Rattle.std.proofs.lemmas.List.Elements.{All-filter}
use Rattle.std.proofs.lemmas.List.FromFn.{get_or-range_with_len, length-range_with_len, take-map-range_with_len}
use Rattle.std.proofs.lemmas.Option.{get_or_from_slice_get, slice_get-get_or, slice_get_within}
use Rattle.rebuild_keep.specs.elf_object.Object.{Object}
use Rattle.rebuild_keep.specs.elf_object.Layout.{section_numbers}
use Rattle.rebuild_keep.specs.elf_object.Sections.{is_allocated, header_at}
use Rattle.rebuild_keep.specs.rebuild_model.Split.{allocated, counterpart}
use Rattle.rebuild_keep.proofs.rebuild_making.NumberLaws.{passing_more, passing_split, passing_position, failing_position}
use Rattle.rebuild_keep.proofs.rebuild_select.SetLaws.{range_with_one_more}
use Rattle.rebuild_keep.proofs.NumberLaws.{filter_few}
use Rattle.rebuild_join.specs.Joined.Answers.{unallocated}
use Rattle.rebuild_join.specs.Joined.Joined.{allocated_alone, allocated_below, stripped_reads, debug_reads}

-- ---- The numbers from 1 on

-- those below a number, with one more
pub numbers_next : (s : ℕ) → 1 ≤ s
    → range_with_len 1 (s + 1 - 1) ≡ range_with_len 1 (s - 1) ++ s ∷ []
numbers_next s first =
    ap (λ (n : ℕ). range_with_len 1 n)
    (let next : s + 1 - 1 ≡ s - 1 + 1 = omega (arith, first) in next)
    ∙ range_with_one_more 1 (s - 1)
    ∙ ap (λ (k : ℕ). range_with_len 1 (s - 1) ++ k ∷ [])
    (let at : 1 + (s - 1) ≡ s = omega (arith, first) in at)

-- around one
module _ (n s : ℕ) (first : 1 ≤ s) (there : s < n) where
  abbrev pub numbers_after : List ℕ
  numbers_after = drop (s - 1 + 1) (range_with_len 1 (n - 1))

  front_is : take (s - 1) (range_with_len 1 (n - 1)) ≡ range_with_len 1 (s - 1)
  front_is =
      ap (take (s - 1)) (sym (map-id (range_with_len 1 (n - 1))))
      ∙ take-map-range_with_len (λ (x : ℕ). x) 1 (n - 1) (s - 1) (omega (arith, first, there))
      ∙ map-id (range_with_len 1 (s - 1))

  pub numbers_split : range_with_len 1 (n - 1) ≡ range_with_len 1 (s - 1) ++ s ∷ numbers_after
  numbers_split =
      let l = range_with_len 1 (n - 1) in
      let long = length-range_with_len 1 (n - 1) in
      sym (take-append-drop (s - 1) l)
      ∙ ap (λ (x : List ℕ). x ++ drop (s - 1) l) front_is
      ∙ ap (λ (x : List ℕ). range_with_len 1 (s - 1) ++ x)
      (drop_more l (s - 1) 0 (omega (arith, first, there, long)))
      ∙ ap (λ (k : ℕ). range_with_len 1 (s - 1) ++ k ∷ drop (s - 1 + 1) l)
      (get_or-range_with_len 1 (n - 1) (s - 1) 0 (omega (arith, first, there))
      ∙ (let at : 1 + (s - 1) ≡ s = omega (arith, first) in at))

-- ---- The allocated ones of an object

module _ (o : Object) where
  abbrev pub loads : ℕ → Bool
  loads s = is_allocated (header_at o s)

  pub below_none : allocated_below o 0 ≡ []
  unfolding allocated_below
  below_none = refl

  pub below_one : allocated_below o 1 ≡ []
  unfolding allocated_below
  below_one = refl

  pub below_next : (s : ℕ) → 1 ≤ s
      → allocated_below o (s + 1) ≡ allocated_below o s ++ cond (loads s) (s ∷ []) []
  unfolding allocated_below
  below_next s first =
      ap (λ (n : ℕ). filter (λ t. is_allocated (header_at o t)) (range_with_len 1 n))
      (let next : s + 1 - 1 ≡ s - 1 + 1 = omega (arith, first) in next)
      ∙ passing_more (λ t. is_allocated (header_at o t)) 1 (s - 1) s (omega (arith, first))

  pub below_pushed : (s : ℕ) → allocated_below o (s + 1) ≡ allocated_below o s ++ allocated_alone o s
  below_pushed s = elim (cases_eq s 0) [
    | inl none ↦ first_pushed none
    | inr some ↦ below_next s (omega (arith, some))
        ∙ sym (ap (λ (b : Bool). allocated_below o s
        ++ (if not b && is_allocated (header_at o s) then s ∷ [] else [])) (ne_eqb s 0 some))
  ]
    where
      first_pushed : s ≡ 0
          → allocated_below o (s + 1) ≡ allocated_below o s ++ allocated_alone o s
      first_pushed none =
          ap (λ (n : ℕ). allocated_below o (n + 1)) none
          ∙ below_one
          ∙ sym (ap (λ (n : ℕ). allocated_below o n ++ allocated_alone o n) none
          ∙ ap (λ (l : List ℕ). l ++ []) below_none)

  pub below_all : allocated_below o (length o.sections) ≡ allocated o
  unfolding allocated_below allocated
  below_all = refl

  pub below_few : (s : ℕ) → length (allocated_below o s) ≤ s - 1
  unfolding allocated_below
  below_few s =
      omega (
        arith,
        filter_few (λ t. is_allocated (header_at o t)) (range_with_len 1 (s - 1)),
        length-range_with_len 1 (s - 1),
      )

  -- with one more, where that is allocated
  pub below_counts : (s : ℕ) → 1 ≤ s → loads s ≡ true
      → length (allocated_below o (s + 1)) ≡ length (allocated_below o s) + 1
  below_counts s first is =
      ap (λ (l : List ℕ). length l) (below_next s first
      ∙ ap (λ (b : Bool). allocated_below o s ++ cond b (s ∷ []) []) is)
      ∙ length-append (allocated_below o s) (s ∷ [])

  pub below_stays : (s : ℕ) → 1 ≤ s → loads s ≡ false
      → length (allocated_below o (s + 1)) ≡ length (allocated_below o s)
  below_stays s first is =
      ap (λ (l : List ℕ). length l) (below_next s first
      ∙ ap (λ (b : Bool). allocated_below o s ++ cond b (s ∷ []) []) is
      ∙ append-nil (allocated_below o s))

  place_is : (s : ℕ) → 1 ≤ s → s < length o.sections → loads s ≡ true
      → position (nat_eq s) (allocated o) ≡ Some (length (allocated_below o s))
  unfolding allocated allocated_below
  place_is s first there is =
      passing_position (λ t. is_allocated (header_at o t)) (length o.sections) s first there is

  place_none : (s : ℕ) → loads s ≡ false → position (nat_eq s) (allocated o) ≡ None
  unfolding allocated
  place_none s out =
      failing_position (λ t. is_allocated (header_at o t)) (section_numbers o) s out

  -- one that is allocated stands among all
  pub below_count : (s : ℕ) → 1 ≤ s → s < length o.sections → loads s ≡ true
      → length (allocated_below o s) < length (allocated o)
  unfolding allocated allocated_below
  below_count s first there is =
      let test = λ (t : ℕ). is_allocated (header_at o t) in
      let before = filter test (range_with_len 1 (s - 1)) in
      let after = filter test (range_with_len (s + 1) (length o.sections - (s + 1))) in
      let long = ap (λ (l : List ℕ). length l)
      (passing_split (λ t. is_allocated (header_at o t)) (length o.sections) s first there is) in
      omega (arith, long, length-append before (s ∷ after))

  allocated_there : All (λ s. s < length o.sections) (allocated o)
  unfolding allocated
  allocated_there =
      All-filter (λ t. is_allocated (header_at o t)) (λ s. s < length o.sections)
      (section_numbers o)
      (λ i d below.
      let long = length-range_with_len 1 (length o.sections - 1) in
      let at = get_or-range_with_len 1 (length o.sections - 1) i d (omega (arith, long, below)) in
      omega (arith, at, long, below))

  pub number_there : (l : List ℕ) (i t : ℕ) → l ≡ allocated o → slice_get l i ≡ Some t
      → t < length o.sections
  number_there l i t same at =
      let found = subst (λ (x : List ℕ). slice_get x i ≡ Some t) same at in
      subst (λ (n : ℕ). n < length o.sections) (get_or_from_slice_get (allocated o) i t 0 found)
      (allocated_there i 0 (slice_get_within (allocated o) i t found))

-- ---- Counterparts

module _ (stripped debug : Object) where
  pub counterpart_some : (s t : ℕ) → 1 ≤ s → s < length debug.sections
      → is_allocated (header_at debug s) ≡ true
      → slice_get (allocated stripped) (length (allocated_below debug s)) ≡ Some t
      → counterpart stripped debug s ≡ Some t
  unfolding counterpart
  counterpart_some s t first there is at =
      ap (λ (p : Option ℕ). elim p as (λ (x : Option ℕ). Option ℕ) [
        | None ↦ None
        | Some i ↦ slice_get (allocated stripped) i
      ]) (place_is debug s first there is)
      ∙ at

  pub counterpart_none : (s : ℕ) → is_allocated (header_at debug s) ≡ false
      → counterpart stripped debug s ≡ None
  unfolding counterpart
  counterpart_none s out =
      ap (λ (p : Option ℕ). elim p as (λ (x : Option ℕ). Option ℕ) [
        | None ↦ None
        | Some i ↦ slice_get (allocated stripped) i
      ]) (place_none debug s out)

  -- ---- What is read for one

  pub stripped_some : (s t : ℕ) → counterpart stripped debug s ≡ Some t
      → stripped_reads stripped debug s ≡ t ∷ []
  unfolding stripped_reads
  stripped_some s t is =
      ap (λ (p : Option ℕ). elim p as (λ (x : Option ℕ). List ℕ) [
        | None ↦ []
        | Some i ↦ i ∷ []
      ]) is

  pub stripped_none : (s : ℕ) → counterpart stripped debug s ≡ None
      → stripped_reads stripped debug s ≡ []
  unfolding stripped_reads
  stripped_none s is =
      ap (λ (p : Option ℕ). elim p as (λ (x : Option ℕ). List ℕ) [
        | None ↦ []
        | Some i ↦ i ∷ []
      ]) is

  pub debug_some : (s t : ℕ) → counterpart stripped debug s ≡ Some t
      → debug_reads stripped debug s ≡ []
  unfolding debug_reads
  debug_some s t is =
      ap (λ (p : Option ℕ). elim p as (λ (x : Option ℕ). List ℕ) [
        | None ↦ s ∷ []
        | Some i ↦ []
      ]) is

  pub debug_none : (s : ℕ) → counterpart stripped debug s ≡ None
      → debug_reads stripped debug s ≡ s ∷ []
  unfolding debug_reads
  debug_none s is =
      ap (λ (p : Option ℕ). elim p as (λ (x : Option ℕ). List ℕ) [
        | None ↦ s ∷ []
        | Some i ↦ []
      ]) is

  -- ---- What is read for all, where both have as many

  module _ (many : length (allocated stripped) ≡ length (allocated debug)) where
    -- an allocated section has a counterpart
    found : (s : ℕ) → 1 ≤ s → s < length debug.sections
        → is_allocated (header_at debug s) ≡ true
        → counterpart stripped debug s
        ≡ Some (get_or (allocated stripped) (length (allocated_below debug s)) 0)
    found s first there is =
        let count = below_count debug s first there is in
        counterpart_some s (get_or (allocated stripped) (length (allocated_below debug s)) 0)
        first there is
        (slice_get-get_or (allocated stripped) (length (allocated_below debug s)) 0
        (omega (arith, many, count)))

    debug_homes_from : (a m : ℕ) → 1 ≤ a → a + m ≤ length debug.sections
        → flat_map (debug_reads stripped debug) (range_with_len a m)
        ≡ filter (λ s. not (is_allocated (header_at debug s))) (range_with_len a m)
    debug_homes_from a zero first within = refl
    debug_homes_from a (suc m) first within =
        by_test (is_allocated (header_at debug a)) refl
        (filter (λ s. not (is_allocated (header_at debug s))) (range_with_len (a + 1) m))
        (debug_homes_from (a + 1) m (omega (arith, first)) (omega (arith, within)))
      where
        by_test : (b : Bool) → is_allocated (header_at debug a) ≡ b → (rest : List ℕ)
            → flat_map (debug_reads stripped debug) (range_with_len (a + 1) m) ≡ rest
            → debug_reads stripped debug a
            ++ flat_map (debug_reads stripped debug) (range_with_len (a + 1) m)
            ≡ cond (not b) (a ∷ rest) rest
        by_test true is rest later =
            ap (λ (l : List ℕ).
            l ++ flat_map (debug_reads stripped debug) (range_with_len (a + 1) m))
            (debug_some a _ (found a first (omega (arith, within)) is))
            ∙ later
        by_test false is rest later =
            ap (λ (l : List ℕ).
            l ++ flat_map (debug_reads stripped debug) (range_with_len (a + 1) m))
            (debug_none a (counterpart_none a is))
            ∙ ap (λ (l : List ℕ). a ∷ l) later

    pub debug_homes : 0 < length debug.sections
        → flat_map (debug_reads stripped debug) (section_numbers debug) ≡ unallocated debug
    unfolding unallocated
    debug_homes some =
        debug_homes_from 1 (length debug.sections - 1) (omega arith) (omega (arith, some))

    stripped_homes_below : (k : ℕ) → k < length debug.sections
        → flat_map (stripped_reads stripped debug) (range_with_len 1 k)
        ≡ take (length (allocated_below debug (k + 1))) (allocated stripped)
    stripped_homes_below zero within =
        ap (λ (l : List ℕ). take (length l) (allocated stripped)) (sym (below_one debug))
    stripped_homes_below (suc k) within =
        ap (λ (n : ℕ). flat_map (stripped_reads stripped debug) (range_with_len 1 n))
        (let next : suc k ≡ k + 1 = omega arith in next)
        ∙ ap (flat_map (stripped_reads stripped debug))
        (range_with_one_more 1 k ∙ ap (λ (n : ℕ). range_with_len 1 k ++ n ∷ [])
        (let next : 1 + k ≡ suc k = omega arith in next))
        ∙ flat_map-append (stripped_reads stripped debug) (range_with_len 1 k) (suc k ∷ [])
        ∙ ap (λ (l : List ℕ). l ++ flat_map (stripped_reads stripped debug) (suc k ∷ []))
        (stripped_homes_below k (omega (arith, within))
        ∙ ap (λ (n : ℕ). take (length (allocated_below debug n)) (allocated stripped))
        (let next : k + 1 ≡ suc k = omega arith in next))
        ∙ by_test (is_allocated (header_at debug (suc k))) refl
        (length (allocated_below debug (suc k))) refl
      where
        by_test : (b : Bool) → is_allocated (header_at debug (suc k)) ≡ b → (at : ℕ)
            → at ≡ length (allocated_below debug (suc k))
            → take at (allocated stripped)
            ++ flat_map (stripped_reads stripped debug) (suc k ∷ [])
            ≡ take (length (allocated_below debug (suc k + 1))) (allocated stripped)
        by_test true is at here =
            let count = below_count debug (suc k) (omega arith) within is in
            ap (λ (l : List ℕ). take at (allocated stripped) ++ (l ++ []))
            (stripped_some (suc k) _ (found (suc k) (omega arith) within is))
            ∙ ap (λ (n : ℕ). take at (allocated stripped) ++ get_or (allocated stripped) n 0 ∷ [])
            (sym here)
            ∙ sym (take_more (allocated stripped) at 0 (omega (arith, many, count, here)))
            ∙ ap (λ (n : ℕ). take n (allocated stripped))
            (ap (λ (n : ℕ). n + 1) here ∙ sym (below_counts debug (suc k) (omega arith) is))
        by_test false is at here =
            ap (λ (l : List ℕ). take at (allocated stripped) ++ (l ++ []))
            (stripped_none (suc k) (counterpart_none (suc k) is))
            ∙ append-nil (take at (allocated stripped))
            ∙ ap (λ (n : ℕ). take n (allocated stripped))
            (here ∙ sym (below_stays debug (suc k) (omega arith) is))

    pub stripped_homes : 0 < length debug.sections
        → flat_map (stripped_reads stripped debug) (section_numbers debug) ≡ allocated stripped
    stripped_homes some =
        stripped_homes_below (length debug.sections - 1) (omega (arith, some))
        ∙ ap (λ (n : ℕ). take (length (allocated_below debug n)) (allocated stripped))
        (let all : length debug.sections - 1 + 1 ≡ length debug.sections = omega (arith, some) in all)
        ∙ ap (λ (l : List ℕ). take (length l) (allocated stripped)) (below_all debug)
        ∙ take_all (length (allocated debug)) (allocated stripped) (omega (arith, many))
