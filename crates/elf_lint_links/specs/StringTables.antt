-- The rules 13 and 14: string tables (gABI chapter 4, "String Table"). A table's first byte is a
-- NUL, and so is its last; an empty one is allowed.
use Rattle.std.specs.Prelude.{ℕ, ◌-◌, ◌==◌, ◌&&◌, not, Bool, false, List, length, slice_get, Option, Some, None, codes}
use Rattle.elf_lint_findings.specs.elf_object.Object.{Object}
use Rattle.elf_lint_findings.specs.elf_object.Due.{all_sections}
use Rattle.elf_lint_findings.specs.elf_object.Sections.{header_at}
use Rattle.elf_lint_findings.specs.Findings.{Rule, at_sections}
use Rattle.elf_lint_findings.specs.Looking.{is_plain, is_string_table, data_bytes}
use Rattle.elf_lint_links.specs.declared.string_tables.End.{End}
use Rattle.elf_lint_links.specs.declared.string_tables.End.TheVariants.{First, Last}

-- there is a byte, and it is no NUL
abbrev pub is_other_byte : Option ℕ → Bool
is_other_byte None = false
is_other_byte (Some b) = not (b == 0)

-- the byte at one of the two ends of a list
abbrev pub byte_at_end : End → List ℕ → Option ℕ
byte_at_end First bytes = slice_get bytes 0
byte_at_end Last bytes = slice_get bytes (length bytes - 1)

-- a string table whose data a rule looks at
unfoldable pub is_plain_string_table : Object → ℕ → Bool
is_plain_string_table o s = is_plain o s && is_string_table (header_at o s)

-- ---- 13: it begins with another byte

unfoldable pub lacks_first_nul : Object → ℕ → Bool
lacks_first_nul o s =
    is_plain_string_table o s && is_other_byte (byte_at_end First (data_bytes o s))

unfoldable pub tables_without_first_nul : Rule
tables_without_first_nul o =
    at_sections 13 (codes "no NUL at the start") (lacks_first_nul o) (all_sections o)

-- ---- 14: it ends with another byte

unfoldable pub lacks_last_nul : Object → ℕ → Bool
lacks_last_nul o s = is_plain_string_table o s && is_other_byte (byte_at_end Last (data_bytes o s))

unfoldable pub tables_without_last_nul : Rule
tables_without_last_nul o =
    at_sections 14 (codes "no NUL at the end") (lacks_last_nul o) (all_sections o)
