-- The first program header that does not fit.
use Rattle.std.proofs.Common.{◌≡◌, ℕ, ◌+◌, ◌<◌, ◌≤◌, Bool, true, false, not, List, length, get_or, Option, Some, None, refl, sym, ap, ◌∙◌, subst, arith, ⊎_elim}
use Rattle.std.specs.List.{position}
use Rattle.std.proofs.lemmas.Bool.{cases_lt}
use Rattle.std.proofs.lemmas.List.{get_or_default}
use Rattle.std.proofs.lemmas.List.Quantifiers.{position-Some}
use Rattle.elf_descriptor.proofs.elf_xlate.Pieces.{each_passes}

module _ {X : Type 0} (passes : X → Bool) (d : X) (l : List X) where
  -- all before one pass
  abbrev pub PassBefore : ℕ → Type 0
  PassBefore i = (j : ℕ) → j < i → passes (get_or l j d) ≡ true

  pub pass_at_first : PassBefore 0
  pass_at_first = λ j h. absurd (omega arith)

  pub pass_more : (i : ℕ) → PassBefore i → passes (get_or l i d) ≡ true → PassBefore (i + 1)
  pass_more i before here = λ j h. ⊎_elim (λ earlier. before j earlier)
      (λ past. let same : i ≡ j = omega arith in subst (λ (k : ℕ). passes (get_or l k d) ≡ true)
      same here) (cases_lt j i)

  pub all_pass : (i : ℕ) → length l ≤ i → PassBefore i → position (λ x. not (passes x)) l ≡ None
  all_pass i all before = by_position (position (λ x. not (passes x)) l) refl
    where
      by_position : (r : Option ℕ) → position (λ x. not (passes x)) l ≡ r → r ≡ None
      by_position None e = refl
      by_position (Some j) e =
          let is = position-Some (λ x. not (passes x)) l j d e in
          let pass = before j (omega (arith, is.0, all)) in
          let clash : true ≡ false = sym is.1 ∙ ap not pass in cc

  pub first_fails : (i : ℕ) → i < length l → PassBefore i → passes (get_or l i d) ≡ false
      → position (λ x. not (passes x)) l ≡ Some i
  first_fails i there before here = by_position (position (λ x. not (passes x)) l) refl
    where
      fails : not (passes (get_or l i d)) ≡ true
      fails = ap not here

      by_position : (r : Option ℕ) → position (λ x. not (passes x)) l ≡ r → r ≡ Some i
      by_position None e =
          let pass = each_passes passes l i (get_or l i d) e there
          (get_or_default l i d (get_or l i d) there) in
          let clash : false ≡ true = sym here ∙ pass in cc
      by_position (Some j) e =
          let is = position-Some (λ x. not (passes x)) l j d e in
          ap Some (⊎_elim
          (λ earlier. let pass = before j earlier in let clash : true ≡ false = sym is.1 ∙ ap not pass in absurd cc)
          (λ past. ⊎_elim
          (λ later. let none = is.2 i later in let clash : false ≡ true = sym none ∙ fails in absurd cc)
          (λ low. let same : j ≡ i = omega arith in same)
          (cases_lt i j)) (cases_lt j i))
