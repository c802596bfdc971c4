-- A list of one row, numbered rows and three more, as the sections of the self test's image are.
use Rattle.std.proofs.Common.{◌≡◌, ℕ, zero, suc, ◌+◌, ◌-◌, ◌<◌, ◌≤◌, List, [], ◌∷◌, ◌++◌, length, get_or, set, All, sym, ap, ◌∙◌, arith}
use Rattle.std.specs.Prelude.{map}
use Rattle.std.specs.List.{range_with_len}
use Rattle.std.proofs.lemmas.List.{length-append, get_or_append_left, get_or-append_right, set_at, append_assoc}
use Rattle.std.proofs.lemmas.List.Elements.{All-cons, All-nil, All-append}
use Rattle.std.proofs.lemmas.List.FromFn.{length-map-range_with_len, get_or-map-range_with_len, map-range_with_len_more}

module _ {X : Type 0} (first : X) (row : ℕ → X) where
  abbrev pub rows : ℕ → X → X → X → List X
  rows n x y z = first ∷ map row (range_with_len 1 n) ++ x ∷ y ∷ z ∷ []

  pub length-rows : (n : ℕ) (x y z : X) → length (rows n x y z) ≡ n + 4
  length-rows n x y z =
      let numbered = length-map-range_with_len row 1 n in
      omega (arith, length-append (map row (range_with_len 1 n)) (x ∷ y ∷ z ∷ []))

  pub row_at : (n i : ℕ) (x y z d : X) → 1 ≤ i → i ≤ n → get_or (rows n x y z) i d ≡ row i
  row_at n i x y z d from upto =
      let numbered = length-map-range_with_len row 1 n in
      let next : suc (i - 1) ≡ i = omega arith in
      ap (λ (k : ℕ). get_or (rows n x y z) k d) (sym next)
      ∙ get_or_append_left (map row (range_with_len 1 n)) (x ∷ y ∷ z ∷ []) d (i - 1) (omega arith)
      ∙ get_or-map-range_with_len row 1 n (i - 1) i d (omega arith) (omega arith)

  pub last_at : (n k i : ℕ) (x y z d : X) → n + 1 + k ≡ i → get_or (rows n x y z) i d ≡ get_or (x ∷ y ∷ z ∷ []) k d
  last_at n k i x y z d place =
      let numbered = length-map-range_with_len row 1 n in
      let next : suc (n + k) ≡ i = omega arith in
      let rest : n + k - n ≡ k = omega arith in
      ap (λ (j : ℕ). get_or (rows n x y z) j d) (sym next)
      ∙ get_or-append_right (map row (range_with_len 1 n)) (x ∷ y ∷ z ∷ []) n (n + k) d numbered (omega arith)
      ∙ ap (λ (j : ℕ). get_or (x ∷ y ∷ z ∷ []) j d) rest

  -- the first of the three is another one
  pub set_last : (n : ℕ) (x y z a : X) → set (rows n x y z) (n + 1) a ≡ rows n a y z
  set_last n x y z a =
      let numbered = length-map-range_with_len row 1 n in
      let next : suc n ≡ n + 1 = omega arith in
      ap (λ (j : ℕ). set (rows n x y z) j a) (sym next)
      ∙ ap (λ (l : List X). first ∷ l) (set_at (map row (range_with_len 1 n)) x (y ∷ z ∷ []) a n numbered)

  -- what holds of each
  numbered_all : (P : X → Type 0) (a n : ℕ) → ((i : ℕ) → a ≤ i → i < a + n → P (row i)) → All P (map row (range_with_len a n))
  numbered_all P a zero each = All-nil P
  numbered_all P a (suc n) each =
      All-cons P (row a) (map row (range_with_len (a + 1) n)) (each a (omega arith) (omega arith))
      (numbered_all P (a + 1) n (λ i from below. each i (omega arith) (omega arith)))

  pub rows_all : (P : X → Type 0) (n : ℕ) (x y z : X) → P first → ((i : ℕ) → 1 ≤ i → i ≤ n → P (row i)) → P x → P y → P z → All P (rows n x y z)
  rows_all P n x y z a each b c d =
      All-cons P first (map row (range_with_len 1 n) ++ x ∷ y ∷ z ∷ []) a
      (All-append P (map row (range_with_len 1 n)) (x ∷ y ∷ z ∷ [])
      (numbered_all P 1 n (λ i from below. each i from (omega arith)))
      (All-cons P x (y ∷ z ∷ []) b (All-cons P y (z ∷ []) c (All-cons P z [] d (All-nil P)))))

pub three_in_one : {X : Type 0} (l : List X) (x y z : X) → ((l ++ x ∷ []) ++ y ∷ []) ++ z ∷ [] ≡ l ++ x ∷ y ∷ z ∷ []
three_in_one l x y z = append_assoc (l ++ x ∷ []) (y ∷ []) (z ∷ []) ∙ append_assoc l (x ∷ []) (y ∷ z ∷ [])

-- three more numbers
pub three_more : {X : Type 0} (f : ℕ → X) (n : ℕ) → map f (range_with_len 1 (n + 3)) ≡ map f (range_with_len 1 n) ++ f (n + 1) ∷ f (n + 2) ∷ f (n + 3) ∷ []
three_more {X} f n =
    let whole : n + 3 ≡ n + 1 + 1 + 1 = omega arith in
    let one = map-range_with_len_more f 1 n (n + 1) (omega arith) in
    let two = map-range_with_len_more f 1 (n + 1) (n + 2) (omega arith) in
    let three = map-range_with_len_more f 1 (n + 1 + 1) (n + 3) (omega arith) in
    ap (λ (k : ℕ). map f (range_with_len 1 k)) whole ∙ three
    ∙ ap (λ (l : List X). l ++ f (n + 3) ∷ []) (two ∙ ap (λ (l : List X). l ++ f (n + 2) ∷ []) one)
    ∙ three_in_one (map f (range_with_len 1 n)) (f (n + 1)) (f (n + 2)) (f (n + 3))
