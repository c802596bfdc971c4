-- The place of an item among whole items.
use Rattle.std.proofs.Common.{◌≡◌, ◌+◌, ◌-◌, ◌*◌, ◌/◌, ◌%◌, ◌<◌, ◌≤◌, ℕ, List, length, take, drop, ap, subst, ◌∙◌, arith}
use Rattle.std.proofs.lemmas.List.{length-take, length-drop}
use Rattle.gelf_view.proofs.section_data.Items.{count_past, item_begins, item_ends}

module _ (xs : List ℕ) (size i at : ℕ) (is : at ≡ i * size) where
  -- the bytes of the item that begins there
  pub place_there : take (at + size - at) (drop at xs) ≡ take size (drop (i * size) xs)
  place_there =
      let long : at + size - at ≡ size = omega arith in
      ap (λ (n : ℕ). take n (drop at xs)) long ∙ ap (λ (n : ℕ). take size (drop n xs)) is

  module _ (some : 0 < size) where
    pub place_past : length xs ≤ at → length xs / size ≤ i
    place_past past =
        count_past (length xs) size i some (subst (λ (n : ℕ). length xs ≤ n) is past)

    module _ (even : length xs % size ≡ 0) (before : at < length xs) where
      begins : i * size < length xs
      begins = subst (λ (n : ℕ). n < length xs) is before

      pub place_inside : i < length xs / size
      place_inside = item_begins (length xs) size i some even begins

      pub place_fits : at + size ≤ length xs
      place_fits =
          let ends : i * size + size ≤ length xs = item_ends (length xs) size i some even begins in
          omega (arith, is, ends)

      pub place_len : length (take (at + size - at) (drop at xs)) ≡ size
      place_len =
          omega (
            arith,
            place_fits,
            length-take (at + size - at) (drop at xs),
            length-drop at xs,
          )
