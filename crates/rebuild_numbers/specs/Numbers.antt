-- The map from old section numbers to new ones as it is kept: a new number for each old one.
use Rattle.std.specs.Prelude.{◌≡◌, ◌≢◌, ℕ, ◌<◌, ◌≤◌, nat_eq, Bool, not, ◌==◌, ◌||◌, List, length, filter, map, slice_index, Some, if◌then◌else◌}
use Rattle.std.specs.List.{position, range_with_len}
use Rattle.rebuild_select.specs.elf_object.Sections.{is_among}
use Rattle.rebuild_select.specs.rebuild_model.Followed.{Renumbering}

-- a kept section: it is section 0, or has a new number; a removed one has 0
abbrev pub is_kept : List ℕ → ℕ → Bool
is_kept numbers s = s == 0 || not (slice_index numbers s == 0)

unfoldable pub numbers_kept : List ℕ → List ℕ
numbers_kept numbers = filter (is_kept numbers) (range_with_len 0 (length numbers))

-- the map of a list of new numbers
unfoldable pub numbering_of : List ℕ → Renumbering
numbering_of numbers = record { count = length numbers; kept = numbers_kept numbers }

-- the new number of a kept section is how many kept ones stand before it
pub record IsNumbering (numbers : List ℕ) : Type 0 where
  pub numbered : (s : ℕ) → s < length numbers → slice_index numbers s ≢ 0
      → position (nat_eq s) (numbers_kept numbers) ≡ Some (slice_index numbers s)
  pub below : (s : ℕ) → s < length numbers → slice_index numbers s ≤ s

-- of so many sections without the removed ones
unfoldable pub numbering_without : ℕ → List ℕ → Renumbering
numbering_without count removed = record {
  count = count;
  kept = filter (λ s. not (is_among removed s)) (range_with_len 0 count);
}

-- how many sections below a number are kept
unfoldable pub kept_below : List ℕ → ℕ → ℕ
kept_below removed s = length (filter (λ t. not (is_among removed t)) (range_with_len 0 s))

-- the new number of a section
unfoldable pub number_without : List ℕ → ℕ → ℕ
number_without removed s = if is_among removed s then 0 else kept_below removed s

-- the new numbers of so many
unfoldable pub numbers_without : List ℕ → ℕ → List ℕ
numbers_without removed count = map (number_without removed) (range_with_len 0 count)
