-- The marks that an update in place sets before it writes (ELF_F_DIRTY), so that it can be done
-- again.
use Rattle.std.specs.Prelude.{ℕ, List, [], ◌∷◌, length, map, flat_map, filter}
use Rattle.std.specs.List.{range_with_len}
use Rattle.elf_types.specs.declared.records.Part.{Part}
use Rattle.elf_types.specs.declared.records.Part.TheVariants as part
use Rattle.elf_object.specs.Object.{Object, section_at}
use Rattle.elf_object.specs.Steps.{with_mark}
use Rattle.elf_object.specs.Layout.{placed}
use Rattle.elf_object.specs.Changed.{is_moved}

-- an object with a dirty mark on each of some parts
abbrev pub marked_all : Object → List Part → Object
marked_all o [] = o
marked_all o (p ∷ ps) = marked_all (with_mark o p) ps

-- the pieces of a section
unfoldable pub pieces_of : Object → ℕ → List Part
pieces_of o s = map (part.Piece s) (range_with_len 0 (length (section_at o s).pieces))

-- the pieces of the sections that move, once places are stored
unfoldable pub moved_pieces : Object → List Part
moved_pieces o =
    flat_map (pieces_of (placed o))
    (filter (is_moved o) (range_with_len 0 (length (placed o).sections)))
