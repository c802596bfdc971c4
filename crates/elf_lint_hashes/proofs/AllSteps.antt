-- A test of each item of a list, one item after another.
use Rattle.std.proofs.Common.{◌≡◌, ℕ, ◌+◌, ◌<◌, ◌≤◌, Bool, true, false, ◌&&◌, List, length, drop, get_or, sym, ap, ◌∙◌}
use Rattle.std.specs.List.{list_all}
use Rattle.std.proofs.lemmas.List.{at_drop_more, at_drop_all}

module _ {X : Type 0} (test : X → Bool) (xs : List X) (i : ℕ) (left : list_all test (drop i xs) ≡ list_all test xs) where
  -- an item passes, and the others are left
  pub all_more : (d : X) → i < length xs → test (get_or xs i d) ≡ true → list_all test (drop (i + 1) xs) ≡ list_all test xs
  all_more d lt passes =
      let next : list_all test (drop i xs) ≡ (test (get_or xs i d) && list_all test (drop (i + 1) xs)) = at_drop_more (list_all test) xs i d lt in
      sym (next ∙ ap (λ (b : Bool). b && list_all test (drop (i + 1) xs)) passes) ∙ left

  -- or it does not
  pub all_fails : (d : X) → i < length xs → test (get_or xs i d) ≡ false → false ≡ list_all test xs
  all_fails d lt fails =
      let next : list_all test (drop i xs) ≡ (test (get_or xs i d) && list_all test (drop (i + 1) xs)) = at_drop_more (list_all test) xs i d lt in
      sym (next ∙ ap (λ (b : Bool). b && list_all test (drop (i + 1) xs)) fails) ∙ left

  -- none is left
  pub all_passed : length xs ≤ i → true ≡ list_all test xs
  all_passed past = sym (at_drop_all (list_all test) xs i past) ∙ left
