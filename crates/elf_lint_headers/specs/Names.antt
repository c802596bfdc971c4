-- The rules 3 and 5: the names of sections (gABI chapter 4, "ELF Header", e_shstrndx; "Section
-- Header", sh_name).
use Rattle.std.specs.Prelude.{◌≡◌, ◌<◌, ℕ, ◌==◌, ◌&&◌, ◌||◌, not, nat_le, Bool, false, length, is_none, codes}
use Rattle.elf_types.specs.declared.constants.TheConstants.{SHN_UNDEF}
use Rattle.tool_objects.specs.elf_object.Object.{Object}
use Rattle.tool_objects.specs.elf_object.Due.{all_sections}
use Rattle.tool_objects.specs.elf_object.Strings.{section_name}
use Rattle.tool_objects.specs.elf_object.Sections.{header_at}
use Rattle.elf_lint_findings.specs.Findings.{Rule, at_header, at_sections}
use Rattle.elf_lint_findings.specs.Looking.{is_no_section, is_string_table}

-- ---- 3: there are sections, and the section of their names is none, is not there, or is no string
-- table

unfoldable pub lacks_name_table : Object → Bool
lacks_name_table o =
    not (length o.sections == 0)
    && (o.header.shstrndx == SHN_UNDEF
    || is_no_section o o.header.shstrndx
    || not (is_string_table (header_at o o.header.shstrndx)))

unfoldable pub missing_name_table : Rule
missing_name_table o = at_header 3 (codes "no name table") (lacks_name_table o)

-- ---- 5: there is a name table, and the name of a section from 1 on cannot be read in it

unfoldable pub has_unreadable_name : Object → ℕ → Bool
has_unreadable_name o s =
    not (s == 0) && (not (lacks_name_table o) && is_none (section_name o s))

unfoldable pub unreadable_section_names : Rule
unreadable_section_names o =
    at_sections 5 (codes "name cannot be read") (has_unreadable_name o) (all_sections o)

-- ---- What the code looks for once an object

-- there is a section that may have a name, and a name table
pub record HasSectionNames (o : Object) : Type 0 where
  pub some : 1 < length o.sections
  pub table : lacks_name_table o ≡ false

-- the name of a section from 1 on begins at a place or behind it
abbrev pub has_name_past : ℕ → Object → ℕ → Bool
has_name_past end o s = not (s == 0) && nat_le end (header_at o s).name
