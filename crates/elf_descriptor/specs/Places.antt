-- Places, sizes and derived values that are stored in the headers, in what the program keeps
-- (elf_update with ELF_C_NULL; gABI chapter 4, "Section Header").
use Rattle.std.specs.Prelude.{◌≡◌, ℕ, ◌+◌, ◌-◌, ◌^◌, ◌<◌, ◌==◌, true, min, length, map, if◌then◌else◌}
use Rattle.std.specs.List.{enumerate_from, AllZip}
use Rattle.elf_types.specs.declared.records.Class.{Class}
use Rattle.elf_types.specs.declared.records.Class.TheVariants.{C32, C64}
use Rattle.elf_types.specs.declared.records.Ehdr.{Ehdr}
use Rattle.elf_types.specs.declared.records.Shdr.{Shdr}
use Rattle.section_table.specs.elf_layout.declared.parts.PartAt.{PartAt}
use Rattle.section_table.specs.elf_layout.declared.parts.Places.{Places}
use Rattle.section_table.specs.elf_layout.Meeting.{has_bytes}
use Rattle.section_table.specs.elf_object.Object.{Object, is_null, occupies_file}
use Rattle.section_table.specs.elf_object.Derived.{derived_header, numbered_shdr}
use Rattle.section_table.specs.elf_object.Layout.{parts_of, segments_place, section_place, table_place}
use Rattle.section_table.specs.section_data.Views.{CellView}
use Rattle.section_table.specs.section_data.Sizes.{data_size}
use Rattle.section_table.specs.Sections.{SectionView as Scn}
use Rattle.elf_descriptor.specs.declared.body.Body.{Body}

-- there is a place for each part of an object with so many sections: the ELF header, the program
-- header table, the sections from 1 on and the section header table
abbrev pub HasPlaces : Places → ℕ → Type 0
HasPlaces places count = length places.at ≡ count - 1 + 3

-- the bound of a place in the file: an Elf32_Off has four bytes, an Elf64_Off eight (gABI chapter
-- 4, "Data Representation")
unfoldable pub place_bound : Class → ℕ
place_bound C32 = 2 ^ 32
place_bound C64 = 2 ^ 64

-- a part fits the class at a place: the place does and, where the part has bytes, its end does
pub record FitsAt (class : Class) (p : PartAt) (at : ℕ) : Type 0 where
  pub place : at < place_bound class
  pub end : has_bytes p ≡ true → at + p.len < place_bound class

-- there is a place for each part of the object, and each part fits the class there
abbrev pub PartsFitAt : Object → Places → Type 0
PartsFitAt o places = AllZip (FitsAt o.header.class) (parts_of o) places.at

-- sh_size: where the last piece of a section with file bytes ends; the caller's where it has none
abbrev pub size_to_store : Class → Shdr → CellView → ℕ
size_to_store class header cell =
    if occupies_file header then min (data_size class cell) (2 ^ 64 - 1) else header.size

unfoldable pub stored_size : Class → Scn → ℕ
stored_size class x = size_to_store class x.header x.cell

-- the header of a section with a number, which stands at a place and has so many bytes
abbrev pub shdr_to_store : Ehdr → ℕ → ℕ → ℕ → Shdr → Shdr
shdr_to_store h s at size header =
    if s == 0 then numbered_shdr h header
    else (if is_null header then header
    else (record header { offset = at; size = size }))

unfoldable pub stored_shdr : Ehdr → ℕ → ℕ → Scn → Shdr
stored_shdr h s at x = shdr_to_store h s at (stored_size h.class x) x.header

abbrev pub stored_scn : Places → Ehdr → ℕ → Scn → Scn
stored_scn places h s x = record x { header = stored_shdr h s (section_place places s) x }

-- the ELF header with the places of the tables
abbrev pub stored_header : Places → Body → Ehdr
stored_header places b =
    derived_header (segments_place places) (table_place places (length b.sections)) b.header

-- all with places stored in the headers of the sections
pub record StoresHeaders (places : Places) (h : Ehdr) (old new : Body) : Type 0 where
  pub rest : new ≡ record old { sections = new.sections }
  pub sections : new.sections
      ≡ map (λ row. stored_scn places h row.0 row.1) (enumerate_from 0 old.sections)

-- and in the ELF header
pub record StoresPlaces (places : Places) (old new : Body) : Type 0 where
  pub rest : new
      ≡ record old { header = stored_header places old; sections = new.sections }
  pub sections : new.sections
      ≡ map (λ row. stored_scn places (stored_header places old) row.0 row.1)
      (enumerate_from 0 old.sections)
