-- The headers of an object, listed, with the number of bytes that each section has in the file.
use Rattle.std.specs.Prelude.{◌≡◌, ℕ, ◌<◌, ◌^◌, List, length, slice_index, slice_index_or, if◌then◌else◌}
use Rattle.elf_types.specs.declared.records.Shdr.{Shdr}
use Rattle.elf_types.specs.declared.records.Part.TheVariants as part
use Rattle.elf_update_plan.specs.elf_ident.Front.{zero_shdr}
use Rattle.elf_layout.specs.declared.parts.PartAt.{PartAt}
use Rattle.elf_layout.specs.declared.parts.Places.{Places}
use Rattle.elf_update_plan.specs.elf_object.Object.{Object, header_of, section_at, is_null, occupies_file}
use Rattle.elf_update_plan.specs.elf_object.Joined.{file_bytes}
use Rattle.elf_update_plan.specs.elf_object.Layout.{alignment_of, placed_shdr}
use Rattle.rebuild_image.specs.declared.listed.listed.HeaderListing.{HeaderListing}

-- a list has an object's headers, and the sizes, each of which fits eight bytes
pub record IsHeaderListing (o : Object) (x : HeaderListing) : Type 0 where
  pub header : x.header ≡ header_of o
  pub count : length x.headers ≡ length o.sections
  pub sized : length x.sizes ≡ length o.sections
  pub headers : (s : ℕ) → s < length o.sections
      → slice_index_or x.headers s zero_shdr ≡ (section_at o s).header
  pub sizes : (s : ℕ) → s < length o.sections → slice_index x.sizes s ≡ length (file_bytes o s)
  pub small : (s : ℕ) → s < length o.sections → length (file_bytes o s) < 2 ^ 64

-- what is listed of a section: its header, and the number of its bytes in the file
pub record IsRow (o : Object) (s : ℕ) (h : Shdr) (size : ℕ) : Type 0 where
  pub header : h ≡ (section_at o s).header
  pub long : size ≡ length (file_bytes o s)

-- a section with that header and so many bytes in the file, as a part
abbrev pub part_listed : ℕ → Shdr → ℕ → PartAt
part_listed s h size = record {
  part = part.Section s;
  at = h.offset;
  len = size;
  align = alignment_of h;
  filled = occupies_file h;
}

-- a header with a place, and with a size where the section has bytes; SHT_NULL stays
abbrev pub shdr_stored : Shdr → ℕ → ℕ → Shdr
shdr_stored h place size =
    if is_null h then h
    else (record h { offset = place; size = if occupies_file h then size else h.size })

-- headers with the places of an object's parts
pub record AreStored (places : Places) (o : Object) (headers : List Shdr) : Type 0 where
  pub count : length headers ≡ length o.sections
  pub each : (s : ℕ) → s < length o.sections
      → slice_index_or headers s zero_shdr ≡ placed_shdr places o s (section_at o s).header
