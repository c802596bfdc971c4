-- A stable sort of numbers by a key: where all that pass a test have one key, the first of them
-- stays the first.
use Rattle.std.proofs.Common.{◌≡◌, ◌+◌, ◌<◌, ◌≤◌, ◌⊎◌, inl, inr, ℕ, zero-add, Bool, true, false, not, cond, List, [], ◌∷◌, length, get_or, map, Option, Some, None, refl, sym, ap, ◌∙◌, arith}
use Rattle.std.specs.Prelude.{filter, nat_le, nat_lt, nat_eq, slice_get, if◌then◌else◌}
use Rattle.std.specs.Option.{option_map}
use Rattle.std.specs.List.{find, position, position_or_len, range_with_len}
use Rattle.std.proofs.lemmas.Bool.{both_ways, cases_lt, cases_Bool, eq-eqb, eqb-true, leb-false, lt-ltb, le-ltb}
use Rattle.std.proofs.lemmas.List.{length-map}
use Rattle.std.proofs.lemmas.List.Folds.{find_at}
use Rattle.std.proofs.lemmas.List.FromFn.{length-range_with_len, get_or-range_with_len}
use Rattle.std.proofs.lemmas.List.Sums.{position_or_len_is, fails_before_first, passes_at_first}
use Rattle.std.proofs.lemmas.Option.{slice_get-get_or, slice_get_past, slice_get_within, get_or_from_slice_get}
use Rattle.elf_layout.specs.Meeting.{inserted_by, sorted_by}
use Rattle.rebuild_model.specs.hash_model.Reordered.{new_index}

-- ---- What passes stays in its order

module _ (key : ℕ → ℕ) (p : ℕ → Bool)
    (alike : (x y : ℕ) → p x ≡ true → p y ≡ true → key x ≡ key y) where
  swapped : (x y : ℕ) (l : List ℕ) (a b : Bool) → (a ≡ true → b ≡ true → ⊥)
      → cond b (y ∷ cond a (x ∷ l) l) (cond a (x ∷ l) l)
      ≡ cond a (x ∷ cond b (y ∷ l) l) (cond b (y ∷ l) l)
  swapped x y l true true not_both = absurd (not_both refl refl)
  swapped x y l true false not_both = refl
  swapped x y l false true not_both = refl
  swapped x y l false false not_both = refl

  inserted_stays : (x : ℕ) (ys : List ℕ) → filter p (inserted_by key x ys) ≡ filter p (x ∷ ys)
  inserted_stays x [] = refl
  inserted_stays x (y ∷ ys) = by (nat_le (key x) (key y)) refl (inserted_stays x ys)
    where
      by : (b : Bool) → nat_le (key x) (key y) ≡ b
          → filter p (inserted_by key x ys) ≡ filter p (x ∷ ys)
          → filter p (if b then x ∷ y ∷ ys else y ∷ inserted_by key x ys)
          ≡ filter p (x ∷ y ∷ ys)
      by true known rest = refl
      by false known rest =
          let above : key y < key x = leb-false (key x) (key y) known in
          ap (λ (l : List ℕ). cond (p y) (y ∷ l) l) rest
          ∙ swapped x y (filter p ys) (p x) (p y)
          (λ one other. absurd (omega (arith, above, alike x y one other)))

  pub sorted_stays : (xs : List ℕ) → filter p (sorted_by key xs) ≡ filter p xs
  sorted_stays [] = refl
  sorted_stays (x ∷ xs) =
      inserted_stays x (sorted_by key xs)
      ∙ ap (λ (l : List ℕ). cond (p x) (x ∷ l) l) (sorted_stays xs)

-- ---- The first place that passes

first_found : (p : ℕ → Bool) (xs : List ℕ) → slice_get (filter p xs) 0 ≡ find p xs
first_found p [] = refl
first_found p (x ∷ xs) = by (p x) (first_found p xs)
  where
    by : (b : Bool) → slice_get (filter p xs) 0 ≡ find p xs
        → slice_get (cond b (x ∷ filter p xs) (filter p xs)) 0 ≡ cond b (Some x) (find p xs)
    by true rest = refl
    by false rest = rest

-- the first that passes, by its place
first_at : (p : ℕ → Bool) (xs : List ℕ)
    → slice_get (filter p xs) 0 ≡ slice_get xs (position_or_len p xs)
first_at p xs = first_found p xs ∙ find_at p xs

place-map : {X Y : Type 0} (p : Y → Bool) (f : X → Y) (xs : List X)
    → position_or_len p (map f xs) ≡ position_or_len (λ x. p (f x)) xs
place-map p f [] = refl
place-map p f (x ∷ xs) = by (p (f x)) (place-map p f xs)
  where
    by : (b : Bool) → position_or_len p (map f xs) ≡ position_or_len (λ x. p (f x)) xs
        → cond (not b) (1 + position_or_len p (map f xs)) 0
        ≡ cond (not b) (1 + position_or_len (λ x. p (f x)) xs) 0
    by true rest = refl
    by false rest = ap (λ (n : ℕ). 1 + n) rest

-- ---- An order of the numbers below one

module _ (key : ℕ → ℕ) (n : ℕ) where
  abbrev order : List ℕ
  order = sorted_by key (range_with_len 0 n)

  abbrev numbers : List ℕ
  numbers = range_with_len 0 n

  number_there : (k : ℕ) → k < n → slice_get numbers k ≡ Some k
  number_there k below =
      slice_get-get_or numbers k 0 (omega (arith, below, length-range_with_len 0 n))
      ∙ ap Some (get_or-range_with_len 0 n k 0 below ∙ zero-add k)

  module _ (p : ℕ → Bool) (alike : (x y : ℕ) → p x ≡ true → p y ≡ true → key x ≡ key y) where
    -- the first that passes is the same in both
    same_first : slice_get order (position_or_len p order)
        ≡ slice_get numbers (position_or_len p numbers)
    same_first =
        sym (first_at p order)
        ∙ ap (λ (l : List ℕ). slice_get l 0) (sorted_stays key p alike numbers)
        ∙ first_at p numbers

    -- a number that passes, and is the first, stands in the order where its first passes
    module _ (long : length order ≡ n) where
      place_below : position_or_len p numbers < n → position_or_len p order < n
      place_below below =
          omega (
            arith,
            long,
            slice_get_within order (position_or_len p order) (position_or_len p numbers)
                (same_first ∙ number_there (position_or_len p numbers) below),
          )

      stands_there : position_or_len p numbers < n
          → get_or order (position_or_len p order) 0 ≡ position_or_len p numbers
      stands_there below =
          get_or_from_slice_get order (position_or_len p order) (position_or_len p numbers) 0
          (same_first ∙ number_there (position_or_len p numbers) below)

      place_past : n ≤ position_or_len p numbers → n ≤ position_or_len p order
      place_past past = by (cases_lt (position_or_len p order) n)
        where
          none : slice_get order (position_or_len p order) ≡ None
          none =
              same_first
              ∙ slice_get_past numbers (position_or_len p numbers)
              (omega (arith, past, length-range_with_len 0 n))

          by : (position_or_len p order < n) ⊎ (n ≤ position_or_len p order)
              → n ≤ position_or_len p order
          by (inl below) =
              let there = slice_get-get_or order (position_or_len p order) 0
              (omega (arith, below, long)) in
              let never : None ≡ Some (get_or order (position_or_len p order) 0) =
              sym none ∙ there in
              cc
          by (inr far) = far

      -- it is the first of its number
      first_of_number : position_or_len p numbers < n
          → position_or_len (nat_eq (position_or_len p numbers)) order ≡ position_or_len p order
      first_of_number below =
          position_or_len_is (nat_eq (position_or_len p numbers)) order (position_or_len p order) 0
          (omega (arith, place_below below, long))
          (λ k before. by k before
          (cases_Bool (nat_eq (position_or_len p numbers) (get_or order k 0))))
          (λ within. eq-eqb (position_or_len p numbers)
          (get_or order (position_or_len p order) 0) (sym (stands_there below)))
        where
          passes : p (position_or_len p numbers) ≡ true
          passes =
              ap p (sym (get_or-range_with_len 0 n (position_or_len p numbers) 0 below
              ∙ zero-add (position_or_len p numbers)))
              ∙ passes_at_first p numbers 0 (omega (arith, below, length-range_with_len 0 n))

          by : (k : ℕ) → k < position_or_len p order
              → (nat_eq (position_or_len p numbers) (get_or order k 0) ≡ true)
              ⊎ (nat_eq (position_or_len p numbers) (get_or order k 0) ≡ false)
              → nat_eq (position_or_len p numbers) (get_or order k 0) ≡ false
          by k before (inl same) =
              let at = eqb-true (position_or_len p numbers) (get_or order k 0) same in
              absurd (both_ways (p (get_or order k 0)) (fails_before_first p order k 0 before)
              (ap p (sym at) ∙ passes))
          by k before (inr other) = other

      abbrev index_by : ℕ → Option ℕ → ℕ
      index_by i found = elim found [ None ↦ i | Some new ↦ new ]

      abbrev found_by : ℕ → Option ℕ
      found_by place = cond (nat_lt place n) (Some place) None

      -- the place of the first that passes moves as the order says
      pub first_moves : cond (nat_lt (position_or_len p order) n) (Some (position_or_len p order))
          None
          ≡ option_map (new_index order)
          (cond (nat_lt (position_or_len p numbers) n) (Some (position_or_len p numbers)) None)
      unfolding new_index
      first_moves = by (cases_lt (position_or_len p numbers) n)
        where
          new_is : position_or_len p numbers < n
              → new_index order (position_or_len p numbers) ≡ position_or_len p order
          new_is below =
              ap (λ (k : ℕ). index_by (position_or_len p numbers)
              (cond (nat_lt k (length order)) (Some k) None)) (first_of_number below)
              ∙ ap (λ (b : Bool). index_by (position_or_len p numbers)
              (cond b (Some (position_or_len p order)) None))
              (lt-ltb (position_or_len p order) (length order)
              (omega (arith, place_below below, long)))

          by : (position_or_len p numbers < n) ⊎ (n ≤ position_or_len p numbers)
              → found_by (position_or_len p order)
              ≡ option_map (new_index order) (found_by (position_or_len p numbers))
          by (inl below) =
              ap (λ (b : Bool). cond b (Some (position_or_len p order)) None)
              (lt-ltb (position_or_len p order) n (place_below below))
              ∙ ap Some (sym (new_is below))
              ∙ sym (ap (λ (b : Bool). option_map (new_index order)
              (cond b (Some (position_or_len p numbers)) None))
              (lt-ltb (position_or_len p numbers) n below))
          by (inr past) =
              ap (λ (b : Bool). cond b (Some (position_or_len p order)) None)
              (le-ltb (position_or_len p order) n (place_past past))
              ∙ sym (ap (λ (b : Bool). option_map (new_index order)
              (cond b (Some (position_or_len p numbers)) None))
              (le-ltb (position_or_len p numbers) n past))

  -- ---- Each number below one stands in the order

  module _ (i : ℕ) (below : i < n) (long : length order ≡ n) where
    same_key : (x y : ℕ) → nat_eq i x ≡ true → nat_eq i y ≡ true → key x ≡ key y
    same_key x y one other = ap key (sym (eqb-true i x one) ∙ eqb-true i y other)

    its_place : position_or_len (nat_eq i) numbers ≡ i
    its_place =
        position_or_len_is (nat_eq i) numbers i 0
        (omega (arith, below, length-range_with_len 0 n))
        (λ k before. by k before (cases_Bool (nat_eq i (get_or numbers k 0))))
        (λ within. eq-eqb i (get_or numbers i 0)
        (sym (get_or-range_with_len 0 n i 0 below ∙ zero-add i)))
      where
        by : (k : ℕ) → k < i
            → (nat_eq i (get_or numbers k 0) ≡ true) ⊎ (nat_eq i (get_or numbers k 0) ≡ false)
            → nat_eq i (get_or numbers k 0) ≡ false
        by k before (inl same) =
            absurd (omega (
              arith,
              eqb-true i (get_or numbers k 0) same,
              get_or-range_with_len 0 n k 0 (omega (arith, before, below)),
              before,
            ))
        by k before (inr other) = other

    within : position_or_len (nat_eq i) numbers < n
    within = omega (arith, its_place, below)

    -- its new index is its place in the order
    pub new_place : new_index order i ≡ position_or_len (nat_eq i) order
    unfolding new_index
    new_place =
        ap (λ (b : Bool). elim (cond b (Some (position_or_len (nat_eq i) order)) None) [
          | None ↦ i
          | Some new ↦ new
        ])
        (lt-ltb (position_or_len (nat_eq i) order) (length order)
        (omega (arith, long, place_below (nat_eq i) same_key long within)))

    pub new_there : slice_get order (new_index order i) ≡ Some i
    new_there =
        ap (slice_get order) new_place
        ∙ same_first (nat_eq i) same_key
        ∙ ap (slice_get numbers) its_place
        ∙ number_there i below

-- ---- Lists in that order

module _ {X : Type 0} (f : ℕ → X) (p : X → Bool) (key : ℕ → ℕ) (n : ℕ)
    (alike : (x y : ℕ) → p (f x) ≡ true → p (f y) ≡ true → key x ≡ key y)
    (long : length (sorted_by key (range_with_len 0 n)) ≡ n) where
  place_in : (l : List ℕ) → length l ≡ n
      → position p (map f l)
      ≡ cond (nat_lt (position_or_len (λ i. p (f i)) l) n)
      (Some (position_or_len (λ i. p (f i)) l)) None
  place_in l is =
      ap (λ (k : ℕ). cond (nat_lt k (length (map f l))) (Some k) None) (place-map p f l)
      ∙ ap (λ (m : ℕ). cond (nat_lt (position_or_len (λ i. p (f i)) l) m)
      (Some (position_or_len (λ i. p (f i)) l)) None) (length-map l f ∙ is)

  -- where the first that passes stands in both
  pub place_moves : position p (map f (sorted_by key (range_with_len 0 n)))
      ≡ option_map (new_index (sorted_by key (range_with_len 0 n)))
      (position p (map f (range_with_len 0 n)))
  place_moves =
      place_in (sorted_by key (range_with_len 0 n)) long
      ∙ first_moves key n (λ i. p (f i)) alike long
      ∙ ap (option_map (new_index (sorted_by key (range_with_len 0 n))))
      (sym (place_in (range_with_len 0 n) (length-range_with_len 0 n)))
