-- What the search for parts that share a byte sorts and finds.
use Rattle.std.specs.Prelude.{ℕ, ◌-◌, nat_lt, List, [], ◌∷◌, map, if◌then◌else◌, Option, Some, None, slice_get}
use Rattle.elf_layout.specs.declared.parts.PartAt.{PartAt}
use Rattle.elf_layout.specs.declared.meeting.Extent.{Extent}
use Rattle.elf_layout.specs.Meeting.{ranked_from, ranked_listed}

-- a ranked part as it is sorted
unfoldable pub extent_of : ℕ × PartAt → Extent
extent_of x = record { at = x.1.at; rank = x.0; len = x.1.len }

-- the parts that are not empty, in the order of the list
unfoldable pub extents_of : List PartAt → List Extent
extents_of ps = map extent_of (ranked_from 0 ps)

-- the same by position, then by rank
unfoldable pub sorted_extents_of : List PartAt → List Extent
sorted_extents_of ps = map extent_of (ranked_listed ps)

-- the second of two extents, if there is one, begins before the first ends
unfoldable pub first_close_or : Extent → Option Extent → Option (ℕ × ℕ) → Option (ℕ × ℕ)
first_close_or a None later = later
first_close_or a (Some b) later =
    if nat_lt (b.at - a.at) a.len then Some (a.rank, b.rank) else later

-- the first neighbours that do so, by their ranks
unfoldable pub first_close : List Extent → Option (ℕ × ℕ)
first_close [] = None
first_close (a ∷ es) = first_close_or a (slice_get es 0) (first_close es)
