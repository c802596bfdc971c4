-- Where the parts of a program stand that are not loaded: from a place on, one after the other,
-- over a base that has what is loaded (gABI chapter 5, "Program Header": p_offset and p_filesz
-- say what is loaded of the file).
use Rattle.std.specs.Prelude.{ℕ, ◌+◌, ◌*◌, min, true, not, ◌==◌, ◌&&◌, ◌||◌, nat_eq, List, [], ◌∷◌, ◌++◌, length, take, map, filter, slice_index, if◌then◌else◌, Option, Some, None, Result, Ok}
use Rattle.std.specs.List.{position, enumerate_from}
use Rattle.std.specs.Option.{option_map}
use Rattle.elf_types.specs.Answers.{refused_if, answered}
use Rattle.elf_types.specs.declared.records.Phdr.{Phdr}
use Rattle.elf_types.specs.declared.errors.ElfError.{ElfError}
use Rattle.elf_types.specs.declared.errors.ElfError.TheVariants.{TooLarge}
use Rattle.elf_types.specs.declared.constants.TheConstants.{PT_NULL}
use Rattle.hash_model.specs.elf_xlate.Headers.{ehdr_size, phdr_size}
use Rattle.hash_model.specs.elf_layout.declared.parts.PartAt.{PartAt}
use Rattle.hash_model.specs.elf_layout.Layout.{in_order_from, positions, some_above, limit_of}
use Rattle.hash_model.specs.elf_object.Object.{Object, Section, is_null}
use Rattle.hash_model.specs.elf_object.Open.{created, created_over}
use Rattle.hash_model.specs.elf_object.Layout.{section_numbers, section_part, table_part}
use Rattle.hash_model.specs.elf_object.Steps.{with_ehdr, with_layout}
use Rattle.hash_model.specs.elf_object.Sections.{is_allocated, is_program, header_at, greatest}

-- an object that is made anew, and for a program the place from which on what is not loaded stands
pub record Rebuilt : Type 0 where
  pub object : Object
  pub tail : Option ℕ

-- ---- The base of a program

-- the end of a segment that has bytes in the file
abbrev pub segment_end : Phdr → ℕ
segment_end p = if p.ptype == PT_NULL || p.filesz == 0 then 0 else p.offset + p.filesz

-- the end of an allocated home that is not empty
unfoldable pub loaded_end : Section → ℕ
loaded_end c = if is_allocated c.header && not (c.home.len == 0) then c.home.at + c.home.len else 0

-- what the header, the program headers, the segments and these sections reach to, and at most
-- the image's length
unfoldable pub base_end : Object → List Section → ℕ
base_end o kept = min (length o.base) (greatest
    (ehdr_size o.header.class
    ∷ (o.header.phoff + length o.phdrs * phdr_size o.header.class)
    ∷ (map segment_end o.phdrs ++ map loaded_end kept)))

-- the tail of what is made of an object: with program headers, the end of its base
unfoldable pub tail_of : Object → List Section → Option ℕ
tail_of o kept = if is_program o then Some (base_end o kept) else None

-- an object without sections of that class and order: over the bytes before the tail with
-- ELF_F_LAYOUT, or with none
unfoldable pub over_base : Object → Option ℕ → Object
over_base o None = created o.header.class o.header.order
over_base o (Some tail) =
    with_layout (created_over o.header.class o.header.order (take tail o.base)) true

-- ---- The places behind it

-- the sections that have to be placed: SHT_NULL keeps its sh_offset, and what is allocated its
-- place
unfoldable pub movable : Object → List ℕ
movable o =
    filter
    (λ s. not (is_null (header_at o s)) && not (is_allocated (header_at o s)))
    (section_numbers o)

-- the section header table, where there are sections
abbrev pub table_parts : Object → List PartAt
table_parts o = if length o.sections == 0 then [] else table_part o ∷ []

-- they and the table, as they stand without ELF_F_LAYOUT, from the tail on
unfoldable pub parts_from : Object → ℕ → List PartAt
parts_from o tail = in_order_from tail (map (section_part o) (movable o) ++ table_parts o)

-- the place of a section among those that are placed
unfoldable pub place_from : Object → ℕ → ℕ → Option ℕ
place_from o tail s =
    option_map (slice_index (positions (parts_from o tail))) (position (nat_eq s) (movable o))

abbrev pub table_place_from : Object → ℕ → ℕ
table_place_from o tail = slice_index (positions (parts_from o tail)) (length (movable o))

-- what is placed is marked, as gelf_update_shdr marks it
unfoldable pub section_from : Object → ℕ → ℕ → Section → Section
section_from o tail s c = elim (place_from o tail s) [
  | None ↦ c
  | Some place ↦ record c { header = record c.header { offset = place }; marked = true }
]

-- the object with these places in its headers; without sections there is nothing to place
unfoldable pub placed_from : Object → ℕ → Object
placed_from o tail =
    if length o.sections == 0 then o
    else with_ehdr
    (record o {
      sections = map (λ row. section_from o tail row.0 row.1) (enumerate_from 0 o.sections);
    })
    (record o.header { shoff = table_place_from o tail })

-- a place that is given passes the limit of the class
unfoldable pub tail_refusal : Object → ℕ → Option ElfError
tail_refusal o tail = refused_if (some_above (limit_of o.header.class) (parts_from o tail)) TooLarge

-- without a tail nothing changes
unfoldable pub arranged : Rebuilt → Result Rebuilt ElfError
arranged r = elim (r.tail) [
  | None ↦ Ok r
  | Some tail ↦ answered
      (tail_refusal r.object tail)
      (record r { object = placed_from r.object tail })
]
