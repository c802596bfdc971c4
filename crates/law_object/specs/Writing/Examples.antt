-- Blocks on which the words for writers are computed.
use Rattle.std.specs.Prelude.{ℕ, List, [], ◌∷◌, length, map}
use Rattle.elf_object.specs.Blocks.{Block}

-- three blocks, one of them empty
abbrev pub three_blocks : List Block
three_blocks =
    record { at = 6; bytes = 1 ∷ 2 ∷ [] }
    ∷ record { at = 3; bytes = [] }
    ∷ record { at = 1; bytes = 9 ∷ [] } ∷ []

-- those that are not, by place
abbrev pub two_in_order : List Block
two_in_order = record { at = 1; bytes = 9 ∷ [] } ∷ record { at = 6; bytes = 1 ∷ 2 ∷ [] } ∷ []

-- the places and the lengths of blocks
abbrev pub extents : List Block → List (ℕ × ℕ)
extents blocks = map (λ b. (b.at, length b.bytes)) blocks
