-- The new numbers of sections: each kept one has the number of those that are kept before it.
use Rattle.std.proofs.Common.{◌≡◌, ◌≢◌, ◌==◌, ◌||◌, ◌+◌, ◌-◌, ◌<◌, ◌≤◌, ℕ, zero, suc, Bool, true, false, not, cond, List, [], ◌∷◌, ◌++◌, length, length-append, map, Some, None, refl, sym, ap, ◌∙◌, inl, inr, arith}
use Rattle.std.specs.Prelude.{filter, slice_index, nat_eq, nat_lt, if◌then◌else◌}
use Rattle.std.specs.List.{range_with_len, list_any, position}
use Rattle.std.proofs.lemmas.Bool.{eq-eqb, ne_eqb, and_right, and_parts, cases_eq, both_ways, not-true, ltb-true}
use Rattle.std.proofs.lemmas.List.Elements.{filter-append}
use Rattle.std.proofs.lemmas.List.Filters.{length-filter_both}
use Rattle.std.proofs.lemmas.List.FromFn.{length-range_with_len, get_or-map-range_with_len, length-map-range_with_len, map-range_with_len_more}
use Rattle.rebuild_select.specs.elf_object.Sections.{is_among}
use Rattle.rebuild_select.specs.rebuild_model.Followed.{Renumbering, renumbered, is_section_number}
use Rattle.rebuild_select.proofs.SetLaws.{filter_same_on_range, among_filter, range_with_one_more}
use Rattle.rebuild_numbers.specs.Numbers.{is_kept, numbers_kept, numbering_of, IsNumbering, numbering_without, kept_below, number_without, numbers_without}
use Rattle.rebuild_numbers.proofs.PlaceLaws.{position_is, stands_at, stands_nowhere}

-- ---- How many are kept

kept_few : (removed : List ℕ) (s : ℕ) → kept_below removed s ≤ s
unfolding kept_below
kept_few removed s =
    let keep = λ (t : ℕ). not (is_among removed t) in
    let gone = λ (t : ℕ). not (not (is_among removed t)) in
    let few : length (filter keep (range_with_len 0 s)) ≤ s =
    omega (
      arith,
      length-filter_both keep gone (λ t. refl) (range_with_len 0 s),
      length-range_with_len 0 s,
    ) in few

-- section 0 is kept
kept_some : (removed : List ℕ) (s : ℕ) → is_among removed 0 ≡ false → 0 < s
    → 0 < kept_below removed s
unfolding kept_below
kept_some removed zero stays from = absurd (omega arith)
kept_some removed (suc s) stays from =
    let keep = λ (t : ℕ). not (is_among removed t) in
    let behind = filter keep (range_with_len 1 s) in
    let is : length (filter keep (range_with_len 0 (suc s))) ≡ suc (length behind) =
    ap (λ (b : Bool). length (cond (not b) (0 ∷ behind) behind)) stays in
    let some : 0 < length (filter keep (range_with_len 0 (suc s))) = omega (arith, is) in some

number_few : (removed : List ℕ) (s : ℕ) → number_without removed s ≤ s
unfolding number_without
number_few removed s = by_test (is_among removed s)
  where
    by_test : (b : Bool) → (if b then 0 else kept_below removed s) ≤ s
    by_test true = let low : 0 ≤ s = omega arith in low
    by_test false = kept_few removed s

number_at : (removed : List ℕ) (n s : ℕ) → s < n
    → slice_index (numbers_without removed n) s ≡ number_without removed s
unfolding numbers_without
number_at removed n s below =
    get_or-map-range_with_len (number_without removed) 0 n s s 0 below (omega arith)

numbers_long : (removed : List ℕ) (n : ℕ) → length (numbers_without removed n) ≡ n
unfolding numbers_without
numbers_long removed n = length-map-range_with_len (number_without removed) 0 n

-- ---- The map

abbrev map_of : ℕ → List ℕ → Renumbering
map_of count kept = record { count = count; kept = kept }

module _ (removed : List ℕ) (n : ℕ) (stays : is_among removed 0 ≡ false) where
  -- a number is 0 where its section is removed, and else no section but 0 has it
  number_tells : (s : ℕ) → s ≢ 0 → (b : Bool) → is_among removed s ≡ b
      → not (number_without removed s == 0) ≡ not b
  unfolding number_without
  number_tells s other true is =
      ap (λ (b : Bool). not ((if b then 0 else kept_below removed s) == 0)) is
  number_tells s other false is =
      ap (λ (b : Bool). not ((if b then 0 else kept_below removed s) == 0)) is
      ∙ ap not (ne_eqb (kept_below removed s) 0
      (λ none. omega (arith, none, kept_some removed s stays (omega (arith, other)))))

  zero_kept : (s : ℕ) → s ≡ 0
      → is_kept (numbers_without removed n) s ≡ not (is_among removed s)
  zero_kept s same =
      ap (λ (b : Bool). b || not (slice_index (numbers_without removed n) s == 0))
      (eq-eqb s 0 same)
      ∙ sym (ap (λ (t : ℕ). not (is_among removed t)) same ∙ ap not stays)

  other_kept : (s : ℕ) → s < n → s ≢ 0
      → is_kept (numbers_without removed n) s ≡ not (is_among removed s)
  other_kept s below other =
      ap (λ (b : Bool). b || not (slice_index (numbers_without removed n) s == 0))
      (ne_eqb s 0 other)
      ∙ ap (λ (k : ℕ). not (k == 0)) (number_at removed n s below)
      ∙ number_tells s other (is_among removed s) refl

  kept_is : (s : ℕ) → s < n
      → is_kept (numbers_without removed n) s ≡ not (is_among removed s)
  kept_is s below = elim (cases_eq s 0) [
    | inl same ↦ zero_kept s same
    | inr other ↦ other_kept s below other
  ]

  kept_all : numbers_kept (numbers_without removed n)
      ≡ filter (λ t. not (is_among removed t)) (range_with_len 0 n)
  unfolding numbers_kept
  kept_all =
      ap (λ (k : ℕ). filter (is_kept (numbers_without removed n)) (range_with_len 0 k))
      (numbers_long removed n)
      ∙ filter_same_on_range (is_kept (numbers_without removed n)) (λ t. not (is_among removed t)) 0 n
      (λ s from below. kept_is s (omega arith))

  -- the map is the stated one
  pub numbering_is : numbering_of (numbers_without removed n) ≡ numbering_without n removed
  unfolding numbering_of numbering_without
  numbering_is =
      ap (λ (k : ℕ). map_of k (numbers_kept (numbers_without removed n)))
      (numbers_long removed n)
      ∙ ap (λ (l : List ℕ). map_of n l) kept_all

  stands : (s : ℕ) → s < n → is_among removed s ≡ false
      → position (nat_eq s) (filter (λ t. not (is_among removed t)) (range_with_len 0 n))
      ≡ Some (kept_below removed s)
  unfolding kept_below
  stands s below is =
      let keep = λ (t : ℕ). not (is_among removed t) in
      position_is (nat_eq s) (filter keep (range_with_len 0 n))
      ∙ stands_at keep 0 0 n s (omega arith) (omega arith) (ap not is)
      ∙ ap (λ (k : ℕ). Some (0 + length (filter keep (range_with_len 0 k))))
      (let all : s - 0 ≡ s = omega arith in all)
      ∙ ap (λ (k : ℕ). Some k) (none_before (length (filter keep (range_with_len 0 s))))
    where
      none_before : (k : ℕ) → 0 + k ≡ k
      none_before k = omega arith

  numbered_at : (s : ℕ) → s < n → (b : Bool) → is_among removed s ≡ b
      → ((if b then 0 else kept_below removed s) ≡ 0 → ⊥)
      → position (nat_eq s) (filter (λ t. not (is_among removed t)) (range_with_len 0 n))
      ≡ Some (number_without removed s)
  unfolding number_without
  numbered_at s below true is some = absurd (some refl)
  numbered_at s below false is some =
      stands s below is
      ∙ ap (λ (b : Bool). Some (if b then 0 else kept_below removed s)) (sym is)

  number_is : (s : ℕ) → number_without removed s ≢ 0
      → ((if is_among removed s then 0 else kept_below removed s) ≡ 0 → ⊥)
  unfolding number_without
  number_is s some = some

  pub is_numbering : IsNumbering (numbers_without removed n)
  is_numbering = record {
    numbered = λ s below some.
        let within : s < n = omega (arith, below, numbers_long removed n) in
        let at = number_at removed n s within in
        ap (λ (l : List ℕ). position (nat_eq s) l) kept_all
        ∙ numbered_at s within (is_among removed s) refl
        (number_is s (λ none. some (at ∙ none)))
        ∙ ap (λ (k : ℕ). Some k) (sym at);
    below = λ s below.
        omega (
          arith,
          number_at removed n s (omega (arith, below, numbers_long removed n)),
          number_few removed s,
        );
  }

-- ---- A number that is looked up

pub section_number : (numbers : List ℕ) (n : ℕ)
    → is_section_number (numbering_of numbers) n ≡ true → (n ≢ 0) × (n < length numbers)
unfolding is_section_number numbering_of
section_number numbers n is =
    let parts = and_parts (not (n == 0)) (nat_lt n (length numbers)) is in (
      (λ zero_is. both_ways (n == 0) (not-true (n == 0) parts.0) (eq-eqb n 0 zero_is)),
      ltb-true n (length numbers) parts.1,
    )

pub renumbered_some : (numbers : List ℕ) (n k : ℕ) → IsNumbering numbers
    → is_section_number (numbering_of numbers) n ≡ true → k ≡ slice_index numbers n → k ≢ 0
    → Some k ≡ renumbered (numbering_of numbers) n
unfolding renumbered numbering_of
renumbered_some numbers n k are is at some =
    ap (λ (j : ℕ). Some j) at
    ∙ sym (are.numbered n (section_number numbers n is).1 (λ none. some (at ∙ none)))

pub renumbered_none : (numbers : List ℕ) (n k : ℕ)
    → is_section_number (numbering_of numbers) n ≡ true → k ≡ slice_index numbers n → k ≡ 0
    → None ≡ renumbered (numbering_of numbers) n
unfolding renumbered numbering_of numbers_kept
renumbered_none numbers n k is at none =
    let kept = filter (is_kept numbers) (range_with_len 0 (length numbers)) in
    let gone : is_kept numbers n ≡ false =
    ap (λ (b : Bool). b || not (slice_index numbers n == 0))
    (ne_eqb n 0 (section_number numbers n is).0)
    ∙ ap (λ (j : ℕ). not (j == 0)) (sym at ∙ none) in
    sym (position_is (nat_eq n) kept
    ∙ stands_nowhere n 0 kept (among_filter (is_kept numbers) (range_with_len 0 (length numbers)) n
    ∙ and_right (list_any (nat_eq n) (range_with_len 0 (length numbers))) (is_kept numbers n)
    gone))

pub number_below : (numbers : List ℕ) (n k : ℕ) → IsNumbering numbers
    → is_section_number (numbering_of numbers) n ≡ true → k ≡ slice_index numbers n → k ≤ n
number_below numbers n k are is at =
    omega (arith, at, are.below n (section_number numbers n is).1)

-- ---- The loop

pub numbers_more : (removed numbers : List ℕ) (s v : ℕ) → numbers ≡ numbers_without removed s
    → v ≡ number_without removed s → numbers ++ v ∷ [] ≡ numbers_without removed (s + 1)
unfolding numbers_without
numbers_more removed numbers s v is one =
    ap (λ (l : List ℕ). l ++ v ∷ []) is
    ∙ ap (λ (k : ℕ). map (number_without removed) (range_with_len 0 s) ++ k ∷ []) one
    ∙ sym (map-range_with_len_more (number_without removed) 0 s s (omega arith))

pub numbers_begin : (removed : List ℕ) → numbers_without removed 0 ≡ []
unfolding numbers_without
numbers_begin removed = refl

pub kept_begin : (removed : List ℕ) → kept_below removed 0 ≡ 0
unfolding kept_below
kept_begin removed = refl

pub next_fits : (removed : List ℕ) (s next : ℕ) → next ≡ kept_below removed s → next ≤ s
next_fits removed s next is = omega (arith, is, kept_few removed s)

module _ (removed : List ℕ) (s next : ℕ) where
  kept_next : kept_below removed (s + 1)
      ≡ kept_below removed s + length (filter (λ t. not (is_among removed t)) (s ∷ []))
  unfolding kept_below
  kept_next =
      let keep = λ (t : ℕ). not (is_among removed t) in
      ap (λ (l : List ℕ). length (filter keep l))
      (range_with_one_more 0 s ∙ ap (λ (k : ℕ). range_with_len 0 s ++ k ∷ [])
      (let at : 0 + s ≡ s = omega arith in at))
      ∙ ap length (filter-append keep (range_with_len 0 s) (s ∷ []))
      ∙ length-append (filter keep (range_with_len 0 s)) (filter keep (s ∷ []))

  kept_gone : is_among removed s ≡ true → next ≡ kept_below removed s
      → next ≡ kept_below removed (s + 1)
  kept_gone is count =
      let none : length (filter (λ t. not (is_among removed t)) (s ∷ [])) ≡ 0 =
      ap (λ (b : Bool). length (cond (not b) (s ∷ []) [])) is in
      omega (arith, count, kept_next, none)

  kept_more : is_among removed s ≡ false → next ≡ kept_below removed s
      → next + 1 ≡ kept_below removed (s + 1)
  kept_more is count =
      let one : length (filter (λ t. not (is_among removed t)) (s ∷ [])) ≡ 1 =
      ap (λ (b : Bool). length (cond (not b) (s ∷ []) [])) is in
      omega (arith, count, kept_next, one)

module _ (removed : List ℕ) (s next : ℕ) (gone : Bool) (tells : gone ≡ is_among removed s)
    (count : next ≡ kept_below removed s) where
  pub number_unless_is : (v : ℕ) → v ≡ (if gone then 0 else next)
      → v ≡ number_without removed s
  unfolding number_without
  number_unless_is v is =
      is
      ∙ ap (λ (b : Bool). if b then 0 else next) tells
      ∙ ap (λ (n : ℕ). if is_among removed s then 0 else n) count

  pub next_unless_is : (n : ℕ) → n ≡ (if gone then next else next + 1)
      → n ≡ kept_below removed (s + 1)
  next_unless_is n is = is ∙ by_gone gone refl
    where
      by_gone : (b : Bool) → gone ≡ b
          → (if b then next else next + 1) ≡ kept_below removed (s + 1)
      by_gone true gone_is = kept_gone removed s next (sym tells ∙ gone_is) count
      by_gone false gone_is = kept_more removed s next (sym tells ∙ gone_is) count
