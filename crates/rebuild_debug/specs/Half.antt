-- What the debug half has of each section, and what is read for it (eu-strip(1) with -f; gABI
-- chapter 4, "Sections", SHT_NOBITS).
use Rattle.std.specs.Prelude.{ℕ, ◌==◌, List, [], filter, map, not, if◌then◌else◌}
use Rattle.elf_types.specs.declared.records.Kind.{Kind}
use Rattle.elf_types.specs.declared.records.Kind.TheVariants as kinds
use Rattle.elf_types.specs.declared.records.Shdr.{Shdr}
use Rattle.elf_types.specs.declared.constants.TheConstants.{SHT_NOBITS}
use Rattle.elf_object.specs.Object.{Object, section_at}
use Rattle.elf_object.specs.Due.{all_sections, home_due, homes_due}
use Rattle.elf_object.specs.Layout.{section_numbers}
use Rattle.elf_object.specs.Sections.{header_at}
use Rattle.rebuild_model.specs.Split.{is_loaded_from_file}

-- ---- One section

-- what is loaded of the file has no bytes in the debug half
unfoldable pub half_header : Object → ℕ → Shdr
half_header o s =
    if is_loaded_from_file (header_at o s)
    then record (header_at o s) { stype = SHT_NOBITS }
    else header_at o s

-- the bytes that it has: none where it is loaded of the file
unfoldable pub debug_half_bytes : Object → ℕ → List ℕ
debug_half_bytes o s = if is_loaded_from_file (header_at o s) then [] else (section_at o s).raw

-- how many bytes of the base its range has
abbrev pub half_range_due : Object → ℕ → ℕ
half_range_due o s = if is_loaded_from_file (header_at o s) then 0 else home_due o [] s

-- ---- All of them

-- each from 1 on is read as bytes
abbrev pub half_kind : ℕ → Kind
half_kind s = if s == 0 then kinds.Empty else kinds.Bytes

unfoldable pub half_kinds : Object → List Kind
half_kinds o = map half_kind (all_sections o)

-- the sections from 1 on that keep their bytes
unfoldable pub kept_in_half : Object → List ℕ
kept_in_half o = filter (λ s. not (is_loaded_from_file (header_at o s))) (section_numbers o)

-- what may be asked for: the homes of those
unfoldable pub half_due : Object → ℕ
half_due o = homes_due o [] (kept_in_half o)
