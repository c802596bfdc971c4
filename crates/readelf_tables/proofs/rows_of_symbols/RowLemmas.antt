-- What is left of the rows of a list, by whether it has an item at an index.
use Rattle.std.proofs.Common.{◌≡◌, ◌+◌, ◌-◌, ◌<◌, ◌≤◌, ◌++◌, ℕ, zero, suc, List, [], ◌∷◌, take, drop, Some, None, refl, sym, ap, ◌∙◌, arith}
use Rattle.std.specs.Prelude.{slice_get}
use Rattle.std.proofs.lemmas.List.{at_drop_more, at_drop_all}
use Rattle.std.proofs.lemmas.Option.{get_or_from_slice_get, slice_get_within}
use Rattle.tool_output.specs.Lines.{numbered_lines}
use Rattle.tool_output.specs.Reports.{shown_report, joined_reports, no_report}
use Rattle.tool_output.proofs.UnderWayLemmas.{shown_append, shown_none, lines_left, no_lines_left}
use Rattle.tool_objects.proofs.at_hand.HeldItems.{all_before}
use Rattle.readelf_tables.proofs.blocks.BlockLemmas.{block_left}

module _ {X : Type 0} (line : ℕ → X → List ℕ) (xs : List X) (i : ℕ) where
  -- its row, which is this text, and then the others
  pub row_there : (x : X) (text : List ℕ) → slice_get xs i ≡ Some x → text ≡ line i x
      → shown_report (numbered_lines line i (drop i xs))
      ≡ joined_reports (shown_report text) (shown_report (numbered_lines line (i + 1) (drop (i + 1) xs)))
  row_there x text there is =
      lines_left line xs i x (slice_get_within xs i x there)
      (sym (get_or_from_slice_get xs i x x there))
      ∙ ap (λ (t : List ℕ). joined_reports (shown_report t)
      (shown_report (numbered_lines line (i + 1) (drop (i + 1) xs)))) (sym is)

  -- none is left
  pub no_row_there : slice_get xs i ≡ None → shown_report (numbered_lines line i (drop i xs)) ≡ no_report
  no_row_there none = no_lines_left line xs i (all_before xs i none)

-- ---- The rows of those from an index on and below another

module _ {X : Type 0} (line : ℕ → X → List ℕ) (xs : List X) where
  -- the row of the first, and then the others
  pub range_more : (i to : ℕ) (x : X) → i < to → slice_get xs i ≡ Some x
      → numbered_lines line i (take (to - i) (drop i xs))
      ≡ line i x ++ numbered_lines line (i + 1) (take (to - (i + 1)) (drop (i + 1) xs))
  unfolding numbered_lines
  range_more i to x lt there =
      let more : to - i ≡ suc (to - (i + 1)) = omega (arith, lt) in
      at_drop_more (λ (l : List X). numbered_lines line i (take (to - i) l)) xs i x
      (slice_get_within xs i x there)
      ∙ ap (λ (y : X). numbered_lines line i (take (to - i) (y ∷ drop (i + 1) xs)))
      (get_or_from_slice_get xs i x x there)
      ∙ ap (λ (n : ℕ). numbered_lines line i (take n (x ∷ drop (i + 1) xs))) more

  -- there is none
  pub range_past : (i to : ℕ) → slice_get xs i ≡ None → numbered_lines line i (take (to - i) (drop i xs)) ≡ []
  unfolding numbered_lines
  range_past i to none =
      at_drop_all (λ (l : List X). numbered_lines line i (take (to - i) l)) xs i (all_before xs i none)
      ∙ of_nothing (to - i)
    where
      of_nothing : (n : ℕ) → numbered_lines line i (take n []) ≡ []
      of_nothing zero = refl
      of_nothing (suc n) = refl

  pub range_ends : (i to : ℕ) → to ≤ i → numbered_lines line i (take (to - i) (drop i xs)) ≡ []
  unfolding numbered_lines
  range_ends i to le =
      let none : to - i ≡ 0 = omega (arith, le) in
      ap (λ (n : ℕ). numbered_lines line i (take n (drop i xs))) none

  -- those of a range, and what is left behind it
  pub range_left : (i to : ℕ) → i ≤ to
      → shown_report (numbered_lines line i (drop i xs))
      ≡ joined_reports (shown_report (numbered_lines line i (take (to - i) (drop i xs))))
      (shown_report (numbered_lines line to (drop to xs)))
  range_left i to le =
      let there : i + (to - i) ≡ to = omega (arith, le) in
      block_left line (to - i) i xs
      ∙ ap (λ (n : ℕ). joined_reports (shown_report (numbered_lines line i (take (to - i) (drop i xs))))
      (shown_report (numbered_lines line n (drop n xs)))) there

  -- one row, and what is left of the range
  pub range_row : (i to : ℕ) (x : X) (text : List ℕ) → i < to → slice_get xs i ≡ Some x → text ≡ line i x
      → shown_report (numbered_lines line i (take (to - i) (drop i xs)))
      ≡ joined_reports (shown_report text)
      (shown_report (numbered_lines line (i + 1) (take (to - (i + 1)) (drop (i + 1) xs))))
  range_row i to x text lt there is =
      let rest = numbered_lines line (i + 1) (take (to - (i + 1)) (drop (i + 1) xs)) in
      ap shown_report (range_more i to x lt there ∙ ap (λ (t : List ℕ). t ++ rest) (sym is))
      ∙ shown_append text rest

  -- nothing is left of it
  pub range_given : (i to : ℕ) → slice_get xs i ≡ None
      → shown_report (numbered_lines line i (take (to - i) (drop i xs))) ≡ no_report
  range_given i to none = ap shown_report (range_past i to none) ∙ shown_none

  pub range_done : (i to : ℕ) → to ≤ i
      → shown_report (numbered_lines line i (take (to - i) (drop i xs))) ≡ no_report
  range_done i to le = ap shown_report (range_ends i to le) ∙ shown_none
