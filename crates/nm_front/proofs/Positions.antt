-- First places in lists that are made of others, and where there are none.
use Rattle.std.proofs.Common.{◌≡◌, ◌+◌, ℕ, Bool, false, not, cond, List, [], ◌∷◌, length, map, Option, Some, None, refl, ap, ◌∙◌, arith}
use Rattle.std.specs.Prelude.{nat_lt}
use Rattle.std.specs.List.{position, position_or_len, list_any}
use Rattle.std.proofs.lemmas.Bool.{or_parts, le-ltb}
use Rattle.std.proofs.lemmas.List.{length-map}

-- ---- The same test, behind a function

module _ {X Y : Type 0} (p : Y → Bool) (f : X → Y) where
  place_mapped : (xs : List X) → position_or_len p (map f xs) ≡ position_or_len (λ x. p (f x)) xs
  place_mapped [] = refl
  place_mapped (x ∷ xs) = ap (λ (n : ℕ). cond (not (p (f x))) (1 + n) 0) (place_mapped xs)

  abbrev place_by : ℕ → ℕ → Option ℕ
  place_by n len = cond (nat_lt n len) (Some n) None

  pub position_mapped : (xs : List X) → position p (map f xs) ≡ position (λ x. p (f x)) xs
  position_mapped xs =
      ap (λ (n : ℕ). place_by n (length (map f xs))) (place_mapped xs)
      ∙ ap (place_by (position_or_len (λ x. p (f x)) xs)) (length-map xs f)

-- ---- Where a weaker test passes nowhere

module _ {X : Type 0} (q p : X → Bool) (fails : (x : X) → q x ≡ false → p x ≡ false) where
  place_past : (xs : List X) → list_any q xs ≡ false → position_or_len p xs ≡ length xs
  place_past [] none = refl
  place_past (x ∷ xs) none =
      let parts = or_parts (q x) (list_any q xs) none in
      let here : position_or_len p (x ∷ xs) ≡ 1 + position_or_len p xs =
      ap (λ (b : Bool). cond (not b) (1 + position_or_len p xs) 0) (fails x parts.0) in
      let later = place_past xs parts.1 in
      omega (arith, here, later)

  pub no_position : (xs : List X) → list_any q xs ≡ false → position p xs ≡ None
  no_position xs none =
      ap (λ (n : ℕ). cond (nat_lt n (length xs)) (Some n) None) (place_past xs none)
      ∙ ap (λ (b : Bool). cond b (Some (length xs)) None)
      (le-ltb (length xs) (length xs) (omega arith))
