-- The new index of each old one, as the indexes are stored from the last one on.
use Rattle.std.proofs.Common.{◌≡◌, ◌+◌, ◌<◌, ◌≤◌, ◌⊎◌, ℕ, suc, zero-add, Bool, true, false, not, cond, List, [], ◌∷◌, ◌++◌, length, get_or, drop, set, Option, Some, None, refl, sym, ap, ◌∙◌, inl, inr, arith}
use Rattle.std.specs.Prelude.{nat_eq, nat_lt, slice_get}
use Rattle.std.specs.List.{range_with_len, position, position_or_len}
use Rattle.std.proofs.lemmas.Bool.{cases_eq, cases_lt, eq-eqb, ne_eqb, lt-ltb, le-ltb}
use Rattle.std.proofs.lemmas.List.{drop_more, drop_all, map-id, map_push, length-set, get_or-set_same, get_or-set_other}
use Rattle.std.proofs.lemmas.List.FromFn.{length-range_with_len, get_or-range_with_len, map-range_with_len_more}
use Rattle.std.proofs.lemmas.List.Sums.{position_or_len_is}
use Rattle.std.proofs.lemmas.Option.{slice_get_cases, get_or_from_slice_get}
use Rattle.symbol_lookup.specs.hash_model.Reordered.{new_index}
use Rattle.hash_order.specs.Indexes.{AreBelow, AreNewIndexes}

-- ---- The first place in a list

abbrev pub later : Option ℕ → Option ℕ
later None = None
later (Some k) = Some (suc k)

position_by : (n m : ℕ) (b : Bool)
    → cond (nat_lt (cond (not b) (1 + m) 0) (suc n)) (Some (cond (not b) (1 + m) 0)) None
    ≡ cond b (Some 0) (later (cond (nat_lt m n) (Some m) None))
position_by n m true =
    ap (λ (t : Bool). cond t (Some 0) None) (lt-ltb 0 (suc n) (omega arith))
position_by n m false = by (cases_lt m n)
  where
    by : (m < n) ⊎ (n ≤ m)
        → cond (nat_lt (1 + m) (suc n)) (Some (1 + m)) None
        ≡ later (cond (nat_lt m n) (Some m) None)
    by (inl low) =
        ap (λ (t : Bool). cond t (Some (1 + m)) None) (lt-ltb (1 + m) (suc n) (omega (arith, low)))
        ∙ ap (λ (k : ℕ). Some k) (let one : 1 + m ≡ suc m = omega arith in one)
        ∙ sym (ap (λ (t : Bool). later (cond t (Some m) None)) (lt-ltb m n low))
    by (inr high) =
        ap (λ (t : Bool). cond t (Some (1 + m)) None) (le-ltb (1 + m) (suc n) (omega (arith, high)))
        ∙ sym (ap (λ (t : Bool). later (cond t (Some m) None)) (le-ltb m n high))

position_first : (p : ℕ → Bool) (x : ℕ) (xs : List ℕ)
    → position p (x ∷ xs) ≡ cond (p x) (Some 0) (later (position p xs))
position_first p x xs = position_by (length xs) (position_or_len p xs) (p x)

position_none : (p : ℕ → Bool) (l : List ℕ)
    → ((k : ℕ) → k < length l → p (get_or l k 0) ≡ false) → position p l ≡ None
position_none p l fails =
    ap (λ (n : ℕ). cond (nat_lt n (length l)) (Some n) None)
    (position_or_len_is p l (length l) 0 (omega arith) fails (λ past. absurd (omega arith)))
    ∙ ap (λ (b : Bool). cond b (Some (length l)) None) (le-ltb (length l) (length l) (omega arith))

module _ (order : List ℕ) where
  -- the new index of an old one among those from a place on
  abbrev pub new_from : ℕ → ℕ → ℕ
  new_from low i = elim (position (nat_eq i) (drop low order)) [ None ↦ i | Some k ↦ low + k ]

  pub record AreNewFrom (low : ℕ) (indexes : List ℕ) : Type 0 where
    pub long : length indexes ≡ length order
    pub at : (i : ℕ) → i < length order → get_or indexes i 0 ≡ new_from low i

  pub begun_new : (low : ℕ) (indexes : List ℕ) → length order ≤ low
      → indexes ≡ range_with_len 0 (length order) → AreNewFrom low indexes
  begun_new low indexes past is = record {
    long = ap (λ (l : List ℕ). length l) is ∙ length-range_with_len 0 (length order);
    at = λ i below.
        ap (λ (l : List ℕ). get_or l i 0) is
        ∙ get_or-range_with_len 0 (length order) i 0 below ∙ zero-add i
        ∙ sym (ap (λ (l : List ℕ). elim (position (nat_eq i) l) [
          | None ↦ i
          | Some k ↦ low + k
        ]) (drop_all low order past));
  }

  by_option : (i low low' : ℕ) (r : Option ℕ) → suc low' ≡ low
      → ◌≡◌ {A = ℕ} (elim r [ None ↦ i | Some k ↦ low + k ])
      (elim (later r) [ None ↦ i | Some k ↦ low' + k ])
  by_option i low low' None step = refl
  by_option i low low' (Some k) step = omega (arith, step)

  pub more_new : (low low' old : ℕ) (indexes indexes' : List ℕ) → suc low' ≡ low
      → low' < length order → old ≡ get_or order low' 0 → old < length order
      → indexes' ≡ set indexes old low' → AreNewFrom low indexes → AreNewFrom low' indexes'
  more_new low low' old indexes indexes' step within old_is below is are = record {
    long = ap (λ (l : List ℕ). length l) is ∙ length-set indexes old low' ∙ are.long;
    at = λ i inside. ap (λ (l : List ℕ). get_or l i 0) is ∙ by i inside (cases_eq i old);
  }
    where
      first : (i : ℕ) (b : Bool) → nat_eq i old ≡ b
          → new_from low' i
          ≡ (elim (cond b (Some 0) (later (position (nat_eq i) (drop low order)))) [
            | None ↦ i
            | Some k ↦ low' + k
          ])
      first i b known =
          ap (λ (l : List ℕ). elim (position (nat_eq i) l) [ None ↦ i | Some k ↦ low' + k ])
          (drop_more order low' 0 within)
          ∙ ap (λ (r : Option ℕ). elim r [ None ↦ i | Some k ↦ low' + k ])
          (position_first (nat_eq i) (get_or order low' 0) (drop (low' + 1) order))
          ∙ ap (λ (t : Bool). elim (cond t (Some 0)
          (later (position (nat_eq i) (drop (low' + 1) order)))) [
            | None ↦ i
            | Some k ↦ low' + k
          ]) (ap (λ (k : ℕ). nat_eq i k) (sym old_is) ∙ known)
          ∙ ap (λ (k : ℕ). elim (cond b (Some 0) (later (position (nat_eq i) (drop k order)))) [
            | None ↦ i
            | Some k ↦ low' + k
          ]) (let next : low' + 1 ≡ low = omega (arith, step) in next)

      by : (i : ℕ) → i < length order → (i ≡ old) ⊎ (i ≡ old → ⊥)
          → get_or (set indexes old low') i 0 ≡ new_from low' i
      by i inside (inl same) =
          ap (λ (k : ℕ). get_or (set indexes old low') k 0) same
          ∙ get_or-set_same indexes old low' 0 (omega (arith, below, are.long))
          ∙ (let none : low' ≡ low' + 0 = omega arith in none)
          ∙ sym (first i true (eq-eqb i old same))
      by i inside (inr other) =
          get_or-set_other indexes old i low' 0 other ∙ are.at i inside
          ∙ by_option i low low' (position (nat_eq i) (drop low order)) step
          ∙ sym (first i false (ne_eqb i old other))

  from_first : (i : ℕ) (r : Option ℕ)
      → ◌≡◌ {A = ℕ} (elim r [ None ↦ i | Some k ↦ 0 + k ])
      (elim r [ None ↦ i | Some k ↦ k ])
  from_first i None = refl
  from_first i (Some k) = zero-add k

  pub all_new : (low : ℕ) (indexes : List ℕ) → low ≡ 0 → AreNewFrom low indexes
      → AreNewIndexes order indexes
  unfolding new_index
  all_new low indexes none are = record {
    long = are.long;
    at = λ i below. are.at i below ∙ ap (λ (n : ℕ). new_from n i) none
        ∙ from_first i (position (nat_eq i) order);
  }

  -- ---- One index

  pub index_found : (indexes : List ℕ) (i new : ℕ) → AreNewIndexes order indexes
      → Some new ≡ slice_get indexes i → new ≡ new_index order i
  index_found indexes i new are there = by (slice_get_cases indexes i).1
    where
      by : ((x : ℕ) × (i < length indexes) × (slice_get indexes i ≡ Some x)
          × (get_or indexes i x ≡ x))
          ⊎ ((length indexes ≤ i) × (slice_get indexes i ≡ None)) → new ≡ new_index order i
      by (inl (x, below, found, at)) =
          sym (get_or_from_slice_get indexes i new 0 (sym there))
          ∙ are.at i (omega (arith, below, are.long))
      by (inr (past, none)) = let never = there ∙ none in cc

  gone : (indexes : List ℕ) (i : ℕ) → None ≡ slice_get indexes i → length indexes ≤ i
  gone indexes i none = by (slice_get_cases indexes i).1
    where
      by : ((x : ℕ) × (i < length indexes) × (slice_get indexes i ≡ Some x)
          × (get_or indexes i x ≡ x))
          ⊎ ((length indexes ≤ i) × (slice_get indexes i ≡ None)) → length indexes ≤ i
      by (inl (x, below, found, at)) = let never = none ∙ found in cc
      by (inr (past, same)) = past

  pub index_stays : (indexes : List ℕ) (i : ℕ) → AreBelow order → AreNewIndexes order indexes
      → None ≡ slice_get indexes i → i ≡ new_index order i
  unfolding new_index
  index_stays indexes i below are none =
      let past : length order ≤ i = omega (arith, gone indexes i none, are.long) in
      sym (ap (λ (r : Option ℕ). elim r [ None ↦ i | Some k ↦ k ])
      (position_none (nat_eq i) order (λ k within. ne_eqb i (get_or order k 0)
      (λ same. absurd (omega (arith, same, below k within, past))))))

  pub stored_below : (k old : ℕ) → old ≡ get_or order k 0 → k < length order → AreBelow order
      → old < length order
  stored_below k old is within below = omega (arith, is, below k within)

-- ---- The indexes below a number

pub below_more : (i n : ℕ) (words words' : List ℕ) → words ≡ range_with_len 0 i
    → words' ≡ words ++ n ∷ [] → n ≡ i → words' ≡ range_with_len 0 (i + 1)
below_more i n words words' so_far is same =
    is ∙ ap (λ (l : List ℕ). l ++ n ∷ []) so_far
    ∙ ap (λ (k : ℕ). range_with_len 0 i ++ k ∷ []) same
    ∙ sym (map-id (range_with_len 0 i ++ i ∷ []))
    ∙ map_push (λ (k : ℕ). k) (range_with_len 0 i) i
    ∙ sym (map-range_with_len_more (λ (k : ℕ). k) 0 i i (zero-add i))
    ∙ map-id (range_with_len 0 (i + 1))

pub below_all : (i count : ℕ) (words : List ℕ) → count ≤ i → i ≤ count
    → words ≡ range_with_len 0 i → words ≡ range_with_len 0 count
below_all i count words past within so_far =
    so_far ∙ ap (λ (n : ℕ). range_with_len 0 n)
    (let same : i ≡ count = omega (arith, past, within) in same)
