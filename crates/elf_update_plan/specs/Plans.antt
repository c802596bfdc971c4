-- The plan of an image: its parts that are not empty, by their places.
use Rattle.std.specs.Prelude.{ℕ, false, List, [], ◌∷◌, slice_index_or}
use Rattle.elf_types.specs.declared.records.Part.TheVariants as part
use Rattle.elf_descriptor.specs.elf_layout.declared.parts.PartAt.{PartAt}

-- what stands at a rank that no part has
abbrev pub no_part : PartAt
no_part = record { part = part.Object; at = 0; len = 0; align = 0; filled = false }

-- the part with a rank
abbrev pub part_of_rank : List PartAt → ℕ → PartAt
part_of_rank parts rank = slice_index_or parts rank no_part

-- parts at other places
abbrev pub stand_at : List PartAt → List ℕ → List PartAt
stand_at [] places = []
stand_at (p ∷ ps) [] = []
stand_at (p ∷ ps) (n ∷ places) = record p { at = n } ∷ stand_at ps places
