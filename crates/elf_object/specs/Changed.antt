-- What an update in place has to write: the parts that are marked, that stand elsewhere than before
-- or that have other bytes than before, and the gaps; which homes that disturbs; and the object
-- that a failed write leaves.
use Rattle.std.specs.Prelude.{ℕ, ◌+◌, Bool, true, not, ◌&&◌, ◌||◌, nat_lt, List, [], ◌∷◌, ◌++◌, length, map, filter, sum_by, if◌then◌else◌}
use Rattle.std.specs.List.{range_with_len, list_any, enumerate_from}
use Rattle.elf_types.specs.declared.records.Part.{Part}
use Rattle.elf_types.specs.declared.records.Part.TheVariants as part
use Rattle.elf_object.specs.Blocks.{Block, same_block, same_extent, extents_meet}
use Rattle.elf_object.specs.Object.{Object, Section, Piece, Home, WrittenFront, section_at, has_file_bytes, some_piece_marked, is_dirty}
use Rattle.elf_object.specs.Joined.{file_bytes}
use Rattle.elf_layout.specs.declared.parts.Places.{Places}
use Rattle.elf_object.specs.Layout.{places_of, placed_by, placed, section_numbers}
use Rattle.elf_object.specs.Image.{front_blocks, section_block, image_length, is_fill_place}

-- ---- Parts

-- the block of a part of the front
abbrev pub block_of : Part → WrittenFront → Block
block_of part.Segments front = front.segments
block_of part.Table front = front.table
block_of _ front = front.header

-- whether a part of the front has another place or other bytes than in the image as opened or last
-- settled, once these places and the derived values are stored
unfoldable pub front_differs : Places → Object → Part → Bool
front_differs places o part =
    let now = block_of part (front_blocks (placed_by places o)) in
    not (same_block now (block_of part o.written_front))

-- a part of the front changes where it is marked or differs; nothing changes where nothing is dirty
unfoldable pub header_changed : Object → Bool
header_changed o =
    is_dirty o && (o.marked || o.header_marked || front_differs (places_of o) o part.Header)

unfoldable pub segments_changed : Object → Bool
segments_changed o =
    is_dirty o && (o.marked || o.segments_marked || front_differs (places_of o) o part.Segments)

-- also where a section is marked
unfoldable pub table_changed : Object → Bool
table_changed o =
    is_dirty o
    && (o.marked || list_any (λ s. s.marked) o.sections || front_differs (places_of o) o part.Table)

-- whether a section stands at its home
unfoldable pub is_at_home : Object → ℕ → Bool
is_at_home o s =
    let home = (section_at o s).home in
    same_extent (section_block (placed o) s).at (length (file_bytes o s)) home.at home.len

-- a section with file bytes changes where one of its pieces is marked or its place is not its home
unfoldable pub section_changed : Object → ℕ → Bool
section_changed o s =
    is_dirty o
    && has_file_bytes s (section_at o s)
    && (some_piece_marked (section_at o s) || not (is_at_home o s))

abbrev pub when : {A : Type 0} → Bool → A → List A
when b x = if b then x ∷ [] else []

-- the parts that change, in their order, with their bytes at their places; none where nothing is
-- dirty
unfoldable pub changed_parts : Object → List (Part × Block)
changed_parts o =
    when (header_changed o) (part.Header, (front_blocks (placed o)).header)
    ++ when (segments_changed o) (part.Segments, (front_blocks (placed o)).segments)
    ++ map
    (λ s. (part.Section s, section_block (placed o) s))
    (filter (section_changed o) (section_numbers o))
    ++ when (table_changed o) (part.Table, (front_blocks (placed o)).table)

unfoldable pub changed : Object → List Part
changed o = map (λ row. row.0) (changed_parts o)

unfoldable pub changed_blocks : Object → List Block
changed_blocks o = map (λ row. row.1) (changed_parts o)

-- the places that no part covers and that do not have the base's byte
unfoldable pub fill_places : Object → List ℕ
fill_places o =
    if is_dirty o then filter (is_fill_place o) (range_with_len 0 (image_length o)) else []

-- how many bytes an update in place hands to the device at most
unfoldable pub changed_bytes : Object → ℕ
changed_bytes o = sum_by (λ b. length b.bytes) (changed_blocks o) + length (fill_places o)

-- ---- Homes

-- whether a home meets a part that changes or a gap, or passes the new end
unfoldable pub is_disturbed : Object → Home → Bool
is_disturbed o home =
    list_any (λ b. extents_meet home.at home.len b.at (length b.bytes)) (changed_blocks o)
    || list_any (λ k. extents_meet home.at home.len k 1) (fill_places o)
    || (nat_lt 0 home.len && nat_lt (image_length o) (home.at + home.len))

-- whether a section's bytes are needed before the first write; nothing is written where nothing is
-- dirty
unfoldable pub is_moved : Object → ℕ → Bool
is_moved o s = is_dirty o && (section_changed o s || is_disturbed o (section_at o s).home)

-- ---- A failed write

abbrev pub marked_piece : Piece → Piece
marked_piece p = record p { marked = true }

unfoldable pub torn_section : Bool → Section → Section
torn_section moved s = if moved then (record s { pieces = map marked_piece s.pieces }) else s

-- the object q with these bytes below the length of its base. It is marked, and so is each piece of
-- a section that moves.
unfoldable pub torn_over : (ℕ → Bool) → List ℕ → Object → Object
torn_over moved bytes q = record q {
  base = bytes;
  marked = true;
  sections = map (λ row. torn_section (moved row.0) row.1) (enumerate_from 0 q.sections);
}

-- the object after a failed write left these bytes below the length of its base: a repeated update
-- takes the sections that move from what is held. Nothing is written where nothing is dirty.
unfoldable pub torn : Object → List ℕ → Object
torn o bytes = if is_dirty o then torn_over (is_moved o) bytes (placed o) else o
