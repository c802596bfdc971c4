-- The items that pass a test, one after another.
use Rattle.std.proofs.Common.{◌≡◌, ℕ, zero, suc, ◌+◌, ◌<◌, ◌≤◌, Bool, true, false, List, [], ◌∷◌, length, drop, Some, refl, ap, ◌∙◌, arith}
use Rattle.std.specs.Prelude.{slice_get, if◌then◌else◌}
use Rattle.std.proofs.lemmas.List.{at_drop_more, at_drop_all}
use Rattle.std.proofs.lemmas.Option.{get_or_from_slice_get, slice_get_within}
use Rattle.tool_objects.specs.AtHand.Items.{passing, passing_from}

module _ {X : Type 0} (test : ℕ → X → Bool) (xs : List X) (i : ℕ) where
  abbrev by_test : Bool → List ℕ
  by_test b =
      if b then i ∷ passing test (i + 1) (drop (i + 1) xs)
      else passing test (i + 1) (drop (i + 1) xs)

  module _ (x : X) (there : slice_get xs i ≡ Some x) where
    here : passing_from test xs i ≡ by_test (test i x)
    here =
        at_drop_more (passing test i) xs i x (slice_get_within xs i x there)
        ∙ ap (λ (y : X). passing test i (y ∷ drop (i + 1) xs))
        (get_or_from_slice_get xs i x x there)

    -- an item passes
    pub one_passes : test i x ≡ true
        → passing_from test xs i ≡ i ∷ passing_from test xs (i + 1)
    one_passes holds = here ∙ ap by_test holds

    -- or it does not
    pub one_fails : test i x ≡ false → passing_from test xs i ≡ passing_from test xs (i + 1)
    one_fails fails = here ∙ ap by_test fails

  -- none is left
  pub none_passes : length xs ≤ i → passing_from test xs i ≡ []
  none_passes past = at_drop_all (passing test i) xs i past

-- ---- Where none passes

-- from an index on
late_none : {X : Type 0} (test : ℕ → X → Bool) (xs : List X) (i : ℕ)
    → ((k : ℕ) (x : X) → i ≤ k → test k x ≡ false) → passing test i xs ≡ []
late_none test [] i late = refl
late_none test (x ∷ xs) i late =
    ap
    (λ (b : Bool). if b then i ∷ passing test (i + 1) xs else passing test (i + 1) xs)
    (late i x (omega arith))
    ∙ late_none test xs (i + 1) (λ k y le. late k y (omega (arith, le)))

pub none_late : {X : Type 0} (test : ℕ → X → Bool) (xs : List X) (i : ℕ)
    → ((k : ℕ) (x : X) → i ≤ k → test k x ≡ false) → passing_from test xs i ≡ []
none_late test xs i late = late_none test (drop i xs) i late

-- before an index
early_none : {X : Type 0} (test : ℕ → X → Bool) (n : ℕ) (xs : List X) (i : ℕ)
    → ((k : ℕ) (x : X) → k < i + n → test k x ≡ false)
    → passing test i xs ≡ passing test (i + n) (drop n xs)
early_none test zero xs i early =
    let same : i ≡ i + 0 = omega arith in ap (λ (k : ℕ). passing test k xs) same
early_none test (suc n) [] i early = refl
early_none test (suc n) (x ∷ xs) i early =
    let same : i + 1 + n ≡ i + suc n = omega arith in
    ap
    (λ (b : Bool). if b then i ∷ passing test (i + 1) xs else passing test (i + 1) xs)
    (early i x (omega arith))
    ∙ early_none test n xs (i + 1) (λ k y lt. early k y (omega (arith, lt)))
    ∙ ap (λ (k : ℕ). passing test k (drop n xs)) same

pub none_early : {X : Type 0} (test : ℕ → X → Bool) (xs : List X) (n : ℕ)
    → ((k : ℕ) (x : X) → k < n → test k x ≡ false)
    → passing_from test xs 0 ≡ passing_from test xs n
none_early test xs n early =
    let same : 0 + n ≡ n = omega arith in
    early_none test n xs 0 (λ k x lt. early k x (omega (arith, lt, same)))
    ∙ ap (λ (k : ℕ). passing test k (drop n xs)) same
