-- The extents of blocks, and whether a home meets them (gABI chapter 4, "Section Header").
use Rattle.std.specs.Prelude.{ℕ, ◌-◌, ◌<◌, ◌≤◌, Bool, nat_lt, List, [], ◌∷◌, ◌++◌, length, slice_index_or, if◌then◌else◌}
use Rattle.std.specs.List.{list_any}
use Rattle.elf_update_to.specs.elf_object.Blocks.{Block, block_end, extents_meet}
use Rattle.elf_update_to.specs.elf_object.Changed.{when}
use Rattle.elf_update_in_place.specs.declared.moves.extents.Extent.{Extent}

-- an extent, unless it is empty
abbrev pub some_extent : ℕ → ℕ → List Extent
some_extent at end = when (nat_lt at end) (record { at = at; end = end })

-- the fill from a place on before a part, and the part where it changes
abbrev pub row_extents : ℕ → Bool → ℕ → ℕ → List Extent
row_extents start changed at end =
    some_extent start at ++ (if changed then some_extent at end else [])

-- the extents of blocks that are not empty, in their order
unfoldable pub block_extents : List Block → List Extent
block_extents [] = []
block_extents (b ∷ bs) = some_extent b.at (block_end b) ++ block_extents bs

-- extents one behind the other from a place on, none of them empty
abbrev pub StandInOrder : ℕ → List Extent → Type 0
StandInOrder from [] = Unit {0}
StandInOrder from (e ∷ es) = (from ≤ e.at) × (e.at < e.end) × StandInOrder e.end es

-- what stands at an index that no extent has
abbrev pub no_extent : Extent
no_extent = record { at = 0; end = 0 }

-- those that end at or before a place come before an index, and the others from it on
pub record SplitsAt (extents : List Extent) (at index : ℕ) : Type 0 where
  pub within : index ≤ length extents
  pub before : (i : ℕ) → i < index → (slice_index_or extents i no_extent).end ≤ at
  pub behind : (i : ℕ) → index ≤ i → i < length extents
      → at < (slice_index_or extents i no_extent).end

-- whether an extent shares a place with one of them
unfoldable pub meets_extents : ℕ → ℕ → List Extent → Bool
meets_extents at len extents =
    list_any (λ e. extents_meet at len e.at (e.end - e.at)) extents
