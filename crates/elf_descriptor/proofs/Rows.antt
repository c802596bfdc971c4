-- The items of a list, each changed by its number, one after the other.
use Rattle.std.proofs.Common.{◌≡◌, ◌∙◌, ℕ, zero, suc, ◌+◌, ◌<◌, ◌≤◌, List, [], ◌∷◌, length, get_or, set, map, Some, refl, sym, ap, arith}
use Rattle.std.specs.Prelude.{slice_get}
use Rattle.std.specs.List.{enumerate_from}

module _ {X : Type 0} (f : ℕ → X → X) (d : X) where
  -- those from a number on
  abbrev pub all_from : ℕ → List X → List X
  all_from k l = map (λ row. f row.0 row.1) (enumerate_from k l)

  -- the first n of them are changed
  unfoldable pub changed_from : ℕ → ℕ → List X → List X
  changed_from k zero l = l
  changed_from k (suc n) [] = []
  changed_from k (suc n) (x ∷ l) = f k x ∷ changed_from (k + 1) n l

  -- what comes next is as it was
  next_same : (k n : ℕ) (l : List X) → n < length l → get_or (changed_from k n l) n d ≡ get_or l n d
  unfolding changed_from
  next_same k zero l there = refl
  next_same k (suc n) [] there = absurd (omega (arith, there))
  next_same k (suc n) (x ∷ l) there = next_same (k + 1) n l (omega (arith, there))

  -- and is changed
  next_changed : (k n : ℕ) (l : List X) → n < length l → set (changed_from k n l) n (f (k + n) (get_or l n d)) ≡ changed_from k (suc n) l
  unfolding changed_from
  next_changed k zero [] there = absurd (omega (arith, there))
  next_changed k zero (x ∷ l) there = let first : k + 0 ≡ k = omega arith in ap (λ (i : ℕ). f i x ∷ l) first
  next_changed k (suc n) [] there = absurd (omega (arith, there))
  next_changed k (suc n) (x ∷ l) there =
      let number : k + suc n ≡ k + 1 + n = omega arith in
      ap (λ (i : ℕ). f k x ∷ set (changed_from (k + 1) n l) n (f i (get_or l n d))) number
      ∙ ap (λ (m : List X). f k x ∷ m) (next_changed (k + 1) n l (omega (arith, there)))

  changed_all : (k n : ℕ) (l : List X) → length l ≤ n → changed_from k n l ≡ all_from k l
  unfolding changed_from
  changed_all k zero [] long = refl
  changed_all k zero (x ∷ l) long = absurd (omega (arith, long))
  changed_all k (suc n) [] long = refl
  changed_all k (suc n) (x ∷ l) long = ap (λ (m : List X). f k x ∷ m) (changed_all (k + 1) n l (omega (arith, long)))

  count_same : (k n : ℕ) (l : List X) → length (changed_from k n l) ≡ length l
  unfolding changed_from
  count_same k zero l = refl
  count_same k (suc n) [] = refl
  count_same k (suc n) (x ∷ l) = let rest = count_same (k + 1) n l in omega (arith, rest)

  pub row_same : (n : ℕ) (l : List X) → n < length l → get_or (changed_from 0 n l) n d ≡ get_or l n d
  row_same n l there = next_same 0 n l there

  pub row_changed : (n : ℕ) (l : List X) → n < length l → set (changed_from 0 n l) n (f n (get_or l n d)) ≡ changed_from 0 (n + 1) l
  row_changed n l there =
      let number : 0 + n ≡ n = omega arith in
      let next : suc n ≡ n + 1 = omega arith in
      ap (λ (i : ℕ). set (changed_from 0 n l) n (f i (get_or l n d))) (sym number)
      ∙ next_changed 0 n l there
      ∙ ap (λ (i : ℕ). changed_from 0 i l) next

  pub rows_changed : (n : ℕ) (l : List X) → length l ≤ n → changed_from 0 n l ≡ all_from 0 l
  rows_changed n l long = changed_all 0 n l long

  pub rows_count : (n : ℕ) (l : List X) → length (changed_from 0 n l) ≡ length l
  rows_count n l = count_same 0 n l

-- a form of each row is that of its item's form
pub rows_map : {X Y : Type 0} (form : X → Y) (f : ℕ → X → X) (g : ℕ → Y → Y) (k : ℕ) (l : List X) → ((i : ℕ) (x : X) → slice_get l i ≡ Some x → form (f (k + i) x) ≡ g (k + i) (form x))
    → map form (map (λ row. f row.0 row.1) (enumerate_from k l)) ≡ map (λ row. g row.0 row.1) (enumerate_from k (map form l))
rows_map form f g k [] each = refl
rows_map {X} {Y} form f g k (x ∷ l) each =
    let first : k + 0 ≡ k = omega arith in
    ap (λ (i : ℕ). form (f i x) ∷ map form (map (λ row. f row.0 row.1) (enumerate_from (k + 1) l))) (sym first)
    ∙ ap (λ (y : Y). y ∷ map form (map (λ row. f row.0 row.1) (enumerate_from (k + 1) l))) (each 0 x refl)
    ∙ ap (λ (i : ℕ). g i (form x) ∷ map form (map (λ row. f row.0 row.1) (enumerate_from (k + 1) l))) first
    ∙ ap (λ (m : List Y). g k (form x) ∷ m) (rows_map form f g (k + 1) l (λ i y at. shifted i y at))
  where
    shifted : (i : ℕ) (y : X) → slice_get l i ≡ Some y → form (f (k + 1 + i) y) ≡ g (k + 1 + i) (form y)
    shifted i y at =
        let number : k + suc i ≡ k + 1 + i = omega arith in
        ap (λ (n : ℕ). form (f n y)) (sym number) ∙ each (suc i) y at ∙ ap (λ (n : ℕ). g n (form y)) number

-- what each row keeps
pub rows_keep : {X Y : Type 0} (form : X → Y) (f : ℕ → X → X) (k : ℕ) (l : List X) → ((i : ℕ) (x : X) → form (f i x) ≡ form x)
    → map form (map (λ row. f row.0 row.1) (enumerate_from k l)) ≡ map form l
rows_keep form f k [] each = refl
rows_keep {X} {Y} form f k (x ∷ l) each =
    ap (λ (y : Y). y ∷ map form (map (λ row. f row.0 row.1) (enumerate_from (k + 1) l))) (each k x)
    ∙ ap (λ (m : List Y). form x ∷ m) (rows_keep form f (k + 1) l each)

-- what is worked out of each row, and what the row's item has once it is changed
pub rows_heads : {X Y Z : Type 0} (form : X → Y) (f : ℕ → X → Z) (g : ℕ → Y → Y) (head : Y → Z)
    (k : ℕ) (l : List X)
    → ((i : ℕ) (x : X) → slice_get l i ≡ Some x → f (k + i) x ≡ head (g (k + i) (form x)))
    → map (λ row. f row.0 row.1) (enumerate_from k l)
    ≡ map head (map (λ row. g row.0 row.1) (enumerate_from k (map form l)))
rows_heads form f g head k [] each = refl
rows_heads {X} {Y} {Z} form f g head k (x ∷ l) each =
    let first : k + 0 ≡ k = omega arith in
    let others = map (λ row. f row.0 row.1) (enumerate_from (k + 1) l) in
    ap (λ (i : ℕ). f i x ∷ others) (sym first)
    ∙ ap (λ (z : Z). z ∷ others) (each 0 x refl)
    ∙ ap (λ (i : ℕ). head (g i (form x)) ∷ others) first
    ∙ ap (λ (m : List Z). head (g k (form x)) ∷ m)
    (rows_heads form f g head (k + 1) l (λ i y at. shifted i y at))
  where
    shifted : (i : ℕ) (y : X) → slice_get l i ≡ Some y
        → f (k + 1 + i) y ≡ head (g (k + 1 + i) (form y))
    shifted i y at =
        let number : k + suc i ≡ k + 1 + i = omega arith in
        ap (λ (n : ℕ). f n y) (sym number)
        ∙ each (suc i) y at
        ∙ ap (λ (n : ℕ). head (g n (form y))) number

-- what is worked out of the row with a number
pub rows_at : {X Z : Type 0} (f : ℕ → X → Z) (d : X) (k : ℕ) (l : List X) (i : ℕ) → i < length l
    → slice_get (map (λ row. f row.0 row.1) (enumerate_from k l)) i
    ≡ Some (f (k + i) (get_or l i d))
rows_at f d k [] i there = absurd (omega (arith, there))
rows_at f d k (x ∷ l) zero there =
    let first : k + 0 ≡ k = omega arith in
    ap (λ (n : ℕ). Some (f n x)) (sym first)
rows_at f d k (x ∷ l) (suc i) there =
    let number : k + 1 + i ≡ k + suc i = omega arith in
    rows_at f d (k + 1) l i (omega (arith, there))
    ∙ ap (λ (n : ℕ). Some (f n (get_or l i d))) number
