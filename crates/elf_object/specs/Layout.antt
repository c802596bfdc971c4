-- Where the parts of the object's image stand (gABI chapter 4, "Section Header", sh_addralign;
-- elf_update and ELF_F_LAYOUT), and the object with these places and the derived values stored in
-- its headers.
use Rattle.std.specs.Prelude.{ℕ, ◌+◌, ◌-◌, ◌*◌, true, ◌==◌, List, [], ◌∷◌, ◌++◌, length, map, slice_index, if◌then◌else◌}
use Rattle.std.specs.List.{range_with_len, enumerate_from}
use Rattle.elf_types.specs.declared.records.Class.{Class}
use Rattle.elf_types.specs.declared.records.Class.TheVariants.{C32, C64}
use Rattle.elf_types.specs.declared.records.Ehdr.{Ehdr}
use Rattle.elf_types.specs.declared.records.Shdr.{Shdr}
use Rattle.elf_types.specs.declared.records.Part.TheVariants as part
use Rattle.elf_ident.specs.elf_xlate.Headers.{ehdr_size, phdr_size, shdr_size}
use Rattle.elf_layout.specs.declared.parts.PartAt.{PartAt}
use Rattle.elf_layout.specs.declared.parts.Places.{Places}
use Rattle.elf_layout.specs.Layout.{standing, places_of as parts_places}
use Rattle.elf_object.specs.Object.{Object, Section, section_at, header_of, is_null, occupies_file, is_dirty}
use Rattle.elf_object.specs.Joined.{file_bytes}
use Rattle.elf_object.specs.Derived.{derived_header, numbered_shdr}

-- ---- The parts: header, program header table, sections from 1 on, section header table

abbrev pub header_part : Object → PartAt
header_part o = record {
  part = part.Header;
  at = 0;
  len = ehdr_size o.header.class;
  align = 1;
  filled = true;
}

abbrev pub segments_part : Object → PartAt
segments_part o = record {
  part = part.Segments;
  at = o.header.phoff;
  len = length o.phdrs * phdr_size o.header.class;
  align = 1;
  filled = true;
}

-- SHT_NULL has no place of its own
abbrev pub alignment_of : Shdr → ℕ
alignment_of h = if is_null h then 1 else h.addralign

unfoldable pub section_part : Object → ℕ → PartAt
section_part o s = record {
  part = part.Section s;
  at = (section_at o s).header.offset;
  len = length (file_bytes o s);
  align = alignment_of (section_at o s).header;
  filled = occupies_file (section_at o s).header;
}

abbrev pub table_alignment : Class → ℕ
table_alignment C32 = 4
table_alignment C64 = 8

abbrev pub table_part : Object → PartAt
table_part o = record {
  part = part.Table;
  at = o.header.shoff;
  len = length o.sections * shdr_size o.header.class;
  align = table_alignment o.header.class;
  filled = true;
}

-- the numbers of the sections from 1 on
abbrev pub section_numbers : Object → List ℕ
section_numbers o = range_with_len 1 (length o.sections - 1)

unfoldable pub parts_of : Object → List PartAt
parts_of o =
    header_part o ∷ segments_part o ∷ map (section_part o) (section_numbers o) ++ table_part o ∷ []

-- ---- Their places: one after the other, or with ELF_F_LAYOUT the caller's

unfoldable pub placed_parts : Object → List PartAt
placed_parts o = standing (parts_of o) o.layout

-- the places of the parts, and the length of the image: the greatest end of a part that is not
-- empty, and with ELF_F_LAYOUT at least the base's length
unfoldable pub places_of : Object → Places
places_of o = parts_places (parts_of o) o.layout (length o.base)

-- ---- Places stored in the headers

abbrev pub segments_place : Places → ℕ
segments_place places = slice_index places.at 1

abbrev pub section_place : Places → ℕ → ℕ
section_place places s = slice_index places.at (s + 1)

-- of an object with so many sections: behind the header, the program headers and the sections from
-- 1 on
abbrev pub table_place : Places → ℕ → ℕ
table_place places count = slice_index places.at (count - 1 + 2)

-- the header with its true counts, the derived values and the places of the tables
unfoldable pub placed_header : Places → Object → Ehdr
placed_header places o =
    derived_header (segments_place places) (table_place places (length o.sections)) (header_of o)

-- sh_size: the number of a section's bytes in the file; the caller's where it has none
abbrev pub size_in_file : Object → ℕ → Shdr → ℕ
size_in_file o s h = if occupies_file h then length (file_bytes o s) else h.size

-- a section header with its place and its size; that of SHT_NULL is the caller's, and section 0's
-- has the numbers that the header does not hold
unfoldable pub placed_shdr : Places → Object → ℕ → Shdr → Shdr
placed_shdr places o s h =
    if s == 0 then numbered_shdr (placed_header places o) h
    else (if is_null h then h
    else (record h { offset = section_place places s; size = size_in_file o s h }))

unfoldable pub placed_section : Places → Object → ℕ → Section → Section
placed_section places o s c = record c { header = placed_shdr places o s c.header }

-- the object with these places, the sizes and the derived values stored in its headers
unfoldable pub placed_by : Places → Object → Object
placed_by places o = record o {
  header = placed_header places o;
  sections = map (λ row. placed_section places o row.0 row.1) (enumerate_from 0 o.sections);
}

-- the object after elf_update with ELF_C_NULL; where nothing is dirty it stays as it is
unfoldable pub placed : Object → Object
placed o = if is_dirty o then placed_by (places_of o) o else o
