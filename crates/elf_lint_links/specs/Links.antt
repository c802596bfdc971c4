-- The rules 15 to 18: what sh_link of a section of some types has to name (gABI chapter 4, "Section
-- Header", sh_link and sh_info interpretation; GNU's hash and version sections link to a symbol
-- table as SHT_HASH does).
use Rattle.std.specs.Prelude.{ℕ, ◌==◌, ◌&&◌, ◌||◌, not, Bool, codes}
use Rattle.elf_types.specs.declared.constants.TheConstants.{SHN_UNDEF, SHT_HASH, SHT_DYNAMIC, SHT_GNU_HASH, SHT_GNU_VERSYM}
use Rattle.elf_types.specs.declared.records.Shdr.{Shdr}
use Rattle.elf_lint_findings.specs.elf_object.Object.{Object}
use Rattle.elf_lint_findings.specs.elf_object.Due.{all_sections}
use Rattle.elf_lint_findings.specs.elf_object.Sections.{header_at, is_relocations}
use Rattle.elf_lint_findings.specs.Findings.{Rule, at_sections}
use Rattle.elf_lint_findings.specs.Looking.{is_looked_at, is_symbol_table, is_string_table, linked_header}

-- ---- 15: the names of symbols stand in a string table

unfoldable pub symbols_lack_strings : Object → ℕ → Bool
symbols_lack_strings o s =
    is_looked_at o s
    && (is_symbol_table (header_at o s) && not (is_string_table (linked_header o s)))

unfoldable pub symbols_without_strings : Rule
symbols_without_strings o =
    at_sections 15 (codes "link is no string table") (symbols_lack_strings o) (all_sections o)

-- ---- 16: relocations are by the symbols of a symbol table, or by none

unfoldable pub relocations_lack_symbols : Object → ℕ → Bool
relocations_lack_symbols o s =
    let h = header_at o s in
    is_looked_at o s
    && (is_relocations h
    && (not (h.link == SHN_UNDEF) && not (is_symbol_table (linked_header o s))))

unfoldable pub relocations_without_symbols : Rule
relocations_without_symbols o =
    at_sections 16 (codes "link is no symbol table") (relocations_lack_symbols o) (all_sections o)

-- ---- 17: hash sections and version indexes are those of a symbol table

abbrev pub goes_by_symbols : Shdr → Bool
goes_by_symbols h =
    h.stype == SHT_HASH || (h.stype == SHT_GNU_HASH || h.stype == SHT_GNU_VERSYM)

unfoldable pub hashes_lack_symbols : Object → ℕ → Bool
hashes_lack_symbols o s =
    is_looked_at o s
    && (goes_by_symbols (header_at o s) && not (is_symbol_table (linked_header o s)))

unfoldable pub hashes_without_symbols : Rule
hashes_without_symbols o =
    at_sections 17 (codes "link is no symbol table") (hashes_lack_symbols o) (all_sections o)

-- ---- 18: the strings of dynamic entries stand in a string table

unfoldable pub dynamic_lacks_strings : Object → ℕ → Bool
dynamic_lacks_strings o s =
    is_looked_at o s
    && ((header_at o s).stype == SHT_DYNAMIC && not (is_string_table (linked_header o s)))

unfoldable pub dynamic_without_strings : Rule
dynamic_without_strings o =
    at_sections 18 (codes "link is no string table") (dynamic_lacks_strings o) (all_sections o)

-- ---- What the code looks for once a section

-- one of these rules has a finding at it
unfoldable pub is_linked_wrongly : Object → ℕ → Bool
is_linked_wrongly o s =
    symbols_lack_strings o s
    || (relocations_lack_symbols o s || (hashes_lack_symbols o s || dynamic_lacks_strings o s))
