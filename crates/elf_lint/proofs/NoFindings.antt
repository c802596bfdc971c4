-- Where no finding of a rule is at a section, what the rule tests does not hold there.
use Rattle.std.proofs.Common.{◌≡◌, ◌+◌, ◌<◌, ◌==◌, ◌&&◌, ℕ, zero, suc, Bool, true, false, List, [], ◌∷◌, length, get_or, refl, sym, ap, ◌∙◌, arith}
use Rattle.std.specs.Prelude.{◌||◌}
use Rattle.std.specs.List.{flat_map, list_any, range_with_len}
use Rattle.std.proofs.lemmas.Bool.{eq-eqb}
use Rattle.std.proofs.lemmas.List.Concat.{flat_map-cons}
use Rattle.std.proofs.lemmas.List.Folds.{list_any-append}
use Rattle.std.proofs.lemmas.List.FromFn.{length-range_with_len, get_or-range_with_len}
use Rattle.elf_lint_findings.specs.declared.places.Place.TheVariants.{Section}
use Rattle.elf_lint_findings.specs.Findings.{finding, found_if, at_sections}
use Rattle.elf_lint.specs.Reach.{is_at}

neither : (a b : Bool) → (a || b) ≡ false → (a ≡ false) × (b ≡ false)
neither true b none = cc
neither false b none = (refl, none)

-- what none has of all that is made of a list, none has of what is made of one item
module _ {X A : Type 0} (test : A → Bool) (f : X → List A) where
  of_cons : (x : X) (xs : List X) → list_any test (flat_map f (x ∷ xs)) ≡ false → (list_any test (f x) ≡ false) × (list_any test (flat_map f xs) ≡ false)
  of_cons x xs none =
      neither (list_any test (f x)) (list_any test (flat_map f xs))
      (sym (ap (list_any test) (flat_map-cons f x xs) ∙ list_any-append test (f x) (flat_map f xs)) ∙ none)

  pub none_of : (xs : List X) (i : ℕ) (d : X) → i < length xs → list_any test (flat_map f xs) ≡ false → list_any test (f (get_or xs i d)) ≡ false
  none_of [] i d below none = absurd (omega arith)
  none_of (x ∷ xs) zero d below none = (of_cons x xs none).0
  none_of (x ∷ xs) (suc i) d below none = none_of xs i d (omega arith) (of_cons x xs none).1

module _ (number : ℕ) (text : List ℕ) (test : ℕ → Bool) (s : ℕ) where
  here : (b : Bool) → list_any (is_at number s) (found_if b (finding number (Section s) text)) ≡ false → b ≡ false
  here false none = refl
  here true none =
      let some : (number == number && s == s || false) ≡ true = rw (eq-eqb number number refl, eq-eqb s s refl) refl in
      let no : true ≡ false = sym some ∙ none in
      cc

  pub fails_at : (n : ℕ) → s < n → list_any (is_at number s) (at_sections number text test (range_with_len 0 n)) ≡ false → test s ≡ false
  unfolding at_sections
  fails_at n below none =
      let long = length-range_with_len 0 n in
      let first : 0 + s ≡ s = omega arith in
      let at : get_or (range_with_len 0 n) s 0 ≡ s = get_or-range_with_len 0 n s 0 below ∙ first in
      let made = λ (k : ℕ). found_if (test k) (finding number (Section k) text) in
      here (test s)
      (sym (ap (λ (k : ℕ). list_any (is_at number s) (made k)) at)
      ∙ none_of (is_at number s) made (range_with_len 0 n) s 0 (omega (arith, below, long)) none)
