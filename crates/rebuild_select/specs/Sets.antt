-- Sets of sections: a mark for each section, or the numbers of those that are marked.
use Rattle.std.specs.Prelude.{ℕ, Bool, false, List, length, filter, slice_get, unwrap_or}
use Rattle.std.specs.List.{range_with_len}

-- whether a section is marked
abbrev pub is_marked : List Bool → ℕ → Bool
is_marked marks s = unwrap_or (slice_get marks s) false

-- the numbers of the marked sections, ascending
unfoldable pub marked_numbers : List Bool → List ℕ
marked_numbers marks = filter (is_marked marks) (range_with_len 0 (length marks))
