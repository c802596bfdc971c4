-- The numbers of the sections that are kept, found one after another.
use Rattle.std.specs.Prelude.{ℕ, ◌-◌, Bool, not, ◌==◌, ◌&&◌, List, [], ◌∷◌, filter, if◌then◌else◌}
use Rattle.std.specs.List.{range_with_len}
use Rattle.rebuild_making.specs.elf_object.Sections.{is_among}

abbrev pub stays_after_removal : List ℕ → ℕ → Bool
stays_after_removal removed s = not (s == 0) && not (is_among removed s)

-- a number alone, where it is that of a section from 1 on that is not removed
abbrev pub kept_alone : List ℕ → ℕ → List ℕ
kept_alone removed s = if stays_after_removal removed s then s ∷ [] else []

-- those below a number
unfoldable pub kept_numbers_below : List ℕ → ℕ → List ℕ
kept_numbers_below removed below =
    filter (λ s. not (is_among removed s)) (range_with_len 1 (below - 1))
