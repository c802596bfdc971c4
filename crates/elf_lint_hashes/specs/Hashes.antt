-- The rules 31 and 32: hash sections that are whole (gABI chapter 5, "Hash Table"; GNU's hash
-- section). Each listed symbol is found by its name in a section that is.
use Rattle.std.specs.Prelude.{◌==◌, ◌&&◌, not, ℕ, Bool, List, Option, codes}
use Rattle.elf_types.specs.declared.constants.TheConstants.{SHT_HASH, SHT_GNU_HASH}
use Rattle.elf_types.specs.declared.records.Kind.TheVariants as kinds
use Rattle.hash_model.specs.elf_object.Object.{Object}
use Rattle.hash_model.specs.elf_object.Due.{all_sections}
use Rattle.hash_model.specs.elf_object.Sections.{header_at, is_of}
use Rattle.hash_model.specs.Listed.{listed_names}
use Rattle.hash_model.specs.HashSections.{is_whole_sysv, is_whole_gnu}
use Rattle.elf_lint_findings.specs.Findings.{Rule, at_sections}
use Rattle.elf_lint_findings.specs.Looking.{is_plain, links_to_symbols, section_words, data_bytes}

-- the names of the listed symbols of the table to which a section links
abbrev pub linked_names : Object → ℕ → List (Option (List ℕ))
linked_names o s = listed_names o (header_at o s).link

-- ---- 31: SHT_HASH

-- a section of words that links to a symbol table whose symbols can be told
unfoldable pub has_words_of_symbols : Object → ℕ → Bool
has_words_of_symbols o s =
    is_plain o s && (is_of SHT_HASH kinds.Word (header_at o s) && links_to_symbols o s)

unfoldable pub is_broken_hash : Object → ℕ → Bool
is_broken_hash o s =
    has_words_of_symbols o s && not (is_whole_sysv (section_words o s) (linked_names o s))

unfoldable pub hashes_not_whole : Rule
hashes_not_whole o =
    at_sections 31 (codes "hash is not whole") (is_broken_hash o) (all_sections o)

-- ---- 32: GNU's hash section

-- one that links to a symbol table whose symbols can be told
unfoldable pub has_bytes_of_symbols : Object → ℕ → Bool
has_bytes_of_symbols o s =
    is_plain o s && ((header_at o s).stype == SHT_GNU_HASH && links_to_symbols o s)

unfoldable pub is_broken_gnu_hash : Object → ℕ → Bool
is_broken_gnu_hash o s =
    has_bytes_of_symbols o s
    && not (is_whole_gnu o.header.class o.header.order (data_bytes o s) (linked_names o s))

unfoldable pub gnu_hashes_not_whole : Rule
gnu_hashes_not_whole o =
    at_sections 32 (codes "hash is not whole") (is_broken_gnu_hash o) (all_sections o)
