-- The image of an object, byte by byte (gABI chapter 4, "Object Files").
use Rattle.std.specs.Prelude.{ℕ, Bool, not, ◌&&◌, nat_lt, List, ◌∷◌, ◌++◌, [], length, map, slice_index, if◌then◌else◌}
use Rattle.elf_object.specs.Blocks.{Block, spread, is_covered}
use Rattle.elf_object.specs.Object.{Object, WrittenFront, section_at, is_dirty}
use Rattle.elf_object.specs.Open.{front_in_image}
use Rattle.elf_object.specs.Joined.{file_bytes}
use Rattle.elf_object.specs.Derived.{written_header}
use Rattle.elf_object.specs.Layout.{placed, places_of, section_numbers}

-- header and tables of an object whose places are stored
unfoldable pub front_blocks : Object → WrittenFront
front_blocks o =
    front_in_image (written_header o.header) o.pad o.phdrs (map (λ s. s.header) o.sections)

-- a section of it
unfoldable pub section_block : Object → ℕ → Block
section_block o s = record { at = (section_at o s).header.offset; bytes = file_bytes o s }

-- its parts, in their order
unfoldable pub part_blocks : Object → List Block
part_blocks o =
    (front_blocks o).header
    ∷ (front_blocks o).segments
    ∷ map (section_block o) (section_numbers o)
    ++ (front_blocks o).table ∷ []

-- the bytes of the base that count: all of them with ELF_F_LAYOUT, and else none
unfoldable pub kept_base : Object → ℕ
kept_base o = if o.layout then length o.base else 0

-- the byte where no part stands: with ELF_F_LAYOUT the base's, where the base has one, and else the
-- fill byte
unfoldable pub uncovered_byte : Object → ℕ → ℕ
uncovered_byte o k = if nat_lt k (kept_base o) then slice_index o.base k else o.fill

unfoldable pub image_length : Object → ℕ
image_length o = if is_dirty o then (places_of o).end else length o.base

-- the bytes that elf_update writes; with nothing dirty those of the base
unfoldable pub image : Object → List ℕ
image o =
    if is_dirty o then spread (image_length o) (uncovered_byte o) (part_blocks (placed o))
    else o.base

-- a place that no part covers and that does not have the base's byte
unfoldable pub is_fill_place : Object → ℕ → Bool
is_fill_place o k =
    nat_lt k (image_length o)
    && not (is_covered (part_blocks (placed o)) k)
    && not (nat_lt k (kept_base o))
