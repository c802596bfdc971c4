-- Indexes of symbols that are put in another order.
use Rattle.std.specs.Prelude.{◌≡◌, ℕ, ◌<◌, List, [], ◌∷◌, length, slice_get, slice_index_or, Some, None}
use Rattle.symbol_lookup.specs.hash_model.Reordered.{new_index}

-- each is below their number
abbrev pub AreBelow : List ℕ → Type 0
AreBelow order = (k : ℕ) → k < length order → slice_index_or order k 0 < length order

-- the new index of each old one
pub record AreNewIndexes (order indexes : List ℕ) : Type 0 where
  pub long : length indexes ≡ length order
  pub at : (i : ℕ) → i < length order → slice_index_or indexes i 0 ≡ new_index order i

-- the item at an index, or none
abbrev pub item_or_none : {A : Type 0} → List A → ℕ → List A
item_or_none l i = elim (slice_get l i) [ None ↦ [] | Some x ↦ x ∷ [] ]
