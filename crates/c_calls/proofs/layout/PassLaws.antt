-- The first of a list that passes a test, as a loop over the list finds it.
use Rattle.std.proofs.Common.{◌≡◌, ℕ, ◌+◌, ◌<◌, ◌≤◌, Bool, true, false, not, List, [], ◌∷◌, length, drop, get_or, Option, Some, None, refl, ap, ◌∙◌, arith}
use Rattle.std.specs.Prelude.{cond, map, nat_lt}
use Rattle.std.specs.List.{position, position_or_len, prefix_len}
use Rattle.std.proofs.lemmas.Bool.{lt-ltb, le-ltb}
use Rattle.std.proofs.lemmas.List.{drop_more, drop_all, length-map}

module _ {X : Type 0} (p : X → Bool) (l : List X) where
  abbrev placed : ℕ → Option ℕ
  placed n = cond (nat_lt n (length l)) (Some n) None

  -- none of the first ones passes
  abbrev pub NoneBelow : ℕ → Type 0
  NoneBelow i = position_or_len p l ≡ i + position_or_len p (drop i l)

  pub none_first : NoneBelow 0
  none_first =
      let start : position_or_len p l ≡ 0 + position_or_len p l = omega arith in start

  pub none_more : (i : ℕ) (d : X) → i < length l → NoneBelow i → p (get_or l i d) ≡ false
      → NoneBelow (i + 1)
  none_more i d there below fails =
      let rest : ℕ = position_or_len p (drop (i + 1) l) in
      let next : i + (1 + rest) ≡ i + 1 + rest = omega arith in
      below
      ∙ ap (λ (m : List X). i + position_or_len p m) (drop_more l i d there)
      ∙ ap (λ (b : Bool). i + cond (not b) (1 + rest) 0) fails
      ∙ next

  pub first_found : (i : ℕ) (d : X) → i < length l → NoneBelow i → p (get_or l i d) ≡ true
      → position p l ≡ Some i
  first_found i d there below passes =
      let rest : ℕ = position_or_len p (drop (i + 1) l) in
      let here : i + 0 ≡ i = omega arith in
      let at : position_or_len p l ≡ i =
      below
      ∙ ap (λ (m : List X). i + position_or_len p m) (drop_more l i d there)
      ∙ ap (λ (b : Bool). i + cond (not b) (1 + rest) 0) passes
      ∙ here in
      ap placed at ∙ ap (λ (b : Bool). cond b (Some i) None) (lt-ltb i (length l) there)

  pub none_found : (i : ℕ) → length l ≤ i → NoneBelow i → position p l ≡ None
  none_found i all below =
      let end : i + 0 ≡ i = omega arith in
      let at : position_or_len p l ≡ i =
      below ∙ ap (λ (m : List X). i + position_or_len p m) (drop_all i l all) ∙ end in
      ap placed at ∙ ap (λ (b : Bool). cond b (Some i) None) (le-ltb i (length l) all)

-- ---- In a list that is mapped

prefix_of : {X Y : Type 0} (f : X → Y) (p : Y → Bool) (l : List X)
    → prefix_len p (map f l) ≡ prefix_len (λ x. p (f x)) l
prefix_of f p [] = refl
prefix_of f p (x ∷ l) = ap (λ (n : ℕ). cond (p (f x)) (1 + n) 0) (prefix_of f p l)

pub position_of : {X Y : Type 0} (f : X → Y) (p : Y → Bool) (l : List X)
    → position p (map f l) ≡ position (λ x. p (f x)) l
position_of {X} {Y} f p l =
    ap (λ (n : ℕ). cond (nat_lt n (length (map f l))) (Some n) None)
    (prefix_of f (λ y. not (p y)) l)
    ∙ ap (λ (n : ℕ). cond (nat_lt (position_or_len (λ x. p (f x)) l) n)
    (Some (position_or_len (λ x. p (f x)) l)) None) (length-map l f)
