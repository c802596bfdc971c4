-- The rules 4, 6 to 12 and 19: section headers (gABI chapter 4, "Section Header"). They look at
-- section 0 too, but for rule 12.
use Rattle.std.specs.Prelude.{ℕ, ◌/◌, ◌%◌, ◌==◌, ◌&&◌, ◌||◌, not, nat_lt, Bool, true, false, List, [], ◌∷◌, codes}
use Rattle.std.specs.Int.{is_power_of_two}
use Rattle.std.specs.List.{list_any}
use Rattle.elf_types.specs.declared.constants.TheConstants.{SHF_TLS}
use Rattle.elf_types.specs.declared.records.Kind.{Kind}
use Rattle.elf_types.specs.declared.records.Kind.TheVariants as kinds
use Rattle.elf_types.specs.declared.records.Shdr.{Shdr}
use Rattle.elf_types.specs.Kinds.{section_kind}
use Rattle.elf_xlate.specs.Items.{item_size}
use Rattle.tool_objects.specs.elf_object.Object.{Object}
use Rattle.tool_objects.specs.elf_object.Due.{all_sections}
use Rattle.tool_objects.specs.elf_object.Sections.{header_at, is_allocated, info_is_section}
use Rattle.elf_lint_findings.specs.Findings.{Rule, at_sections}
use Rattle.elf_lint_findings.specs.Looking.{is_outside_file, is_ragged_section, is_intact, is_looked_at, is_no_section}

-- ---- 4: section 0 has a field that is not 0, other than those that hold what the ELF header does
-- not (sh_size, sh_link and sh_info)

abbrev pub reserved_fields : Shdr → List ℕ
reserved_fields h =
    h.name ∷ h.stype ∷ h.flags ∷ h.addr ∷ h.offset ∷ h.addralign ∷ h.entsize ∷ []

unfoldable pub is_used_section_0 : Object → ℕ → Bool
is_used_section_0 o s =
    s == 0 && list_any (λ n. not (n == 0)) (reserved_fields (header_at o s))

unfoldable pub section_0_in_use : Rule
section_0_in_use o =
    at_sections 4 (codes "section 0 is in use") (is_used_section_0 o) (all_sections o)

-- ---- 6 and 7: its bytes pass the file's end; its size is no multiple of its item's

unfoldable pub sections_outside_the_file : Rule
sections_outside_the_file o =
    at_sections 6 (codes "outside the file") (is_outside_file o) (all_sections o)

unfoldable pub ragged_sections : Rule
ragged_sections o =
    at_sections 7 (codes "size is no multiple of the item") (is_ragged_section o) (all_sections o)

-- ---- 8 and 9: sh_addralign is neither 0 nor a power of two; it is above 1, and sh_addr is no
-- multiple of it

unfoldable pub has_odd_alignment : Object → ℕ → Bool
has_odd_alignment o s =
    let align = (header_at o s).addralign in not (align == 0) && not (is_power_of_two align)

unfoldable pub odd_alignments : Rule
odd_alignments o =
    at_sections 8 (codes "alignment is no power of two") (has_odd_alignment o) (all_sections o)

unfoldable pub has_unaligned_address : Object → ℕ → Bool
has_unaligned_address o s =
    let h = header_at o s in nat_lt 1 h.addralign && not (h.addr % h.addralign == 0)

unfoldable pub unaligned_addresses : Rule
unaligned_addresses o =
    at_sections 9 (codes "address is not aligned") (has_unaligned_address o) (all_sections o)

-- ---- 10 and 11: sh_link is no section's number; sh_info is to be one, and is none

unfoldable pub links_nowhere : Object → ℕ → Bool
links_nowhere o s = is_no_section o (header_at o s).link

unfoldable pub links_to_no_section : Rule
links_to_no_section o =
    at_sections 10 (codes "link to no section") (links_nowhere o) (all_sections o)

unfoldable pub informs_of_nothing : Object → ℕ → Bool
informs_of_nothing o s =
    let h = header_at o s in info_is_section h && is_no_section o h.info

unfoldable pub infos_of_no_section : Rule
infos_of_no_section o =
    at_sections 11 (codes "info names no section") (informs_of_nothing o) (all_sections o)

-- ---- 12: sh_entsize of a section of symbols, relocations or dynamic entries is not their size

abbrev pub has_entries : Kind → Bool
has_entries kinds.Sym = true
has_entries kinds.Rel = true
has_entries kinds.Rela = true
has_entries kinds.Dyn = true
has_entries _ = false

unfoldable pub has_wrong_entry_size : Object → ℕ → Bool
has_wrong_entry_size o s =
    let h = header_at o s in
    let kind = section_kind h in
    is_looked_at o s && (has_entries kind && not (h.entsize == item_size kind o.header.class))

unfoldable pub wrong_entry_sizes : Rule
wrong_entry_sizes o =
    at_sections 12 (codes "wrong entry size") (has_wrong_entry_size o) (all_sections o)

-- ---- 19: it holds thread-local storage, and is not in memory when the program runs (SHF_TLS,
-- SHF_ALLOC)

unfoldable pub is_unallocated_storage : Object → ℕ → Bool
is_unallocated_storage o s =
    let h = header_at o s in
    is_intact o s && (h.flags / SHF_TLS % 2 == 1 && not (is_allocated h))

unfoldable pub unallocated_thread_storage : Rule
unallocated_thread_storage o =
    at_sections 19 (codes "thread-local but not allocated") (is_unallocated_storage o)
    (all_sections o)

-- ---- What the code looks for once a section

-- rule 8 or 9 has a finding at it
abbrev pub is_odd_in_memory : Object → ℕ → Bool
is_odd_in_memory o s = has_odd_alignment o s || has_unaligned_address o s

-- one of the rules 4 and 6 to 9 has
abbrev pub is_odd_in_place : Object → ℕ → Bool
is_odd_in_place o s =
    is_used_section_0 o s
    || (is_outside_file o s || (is_ragged_section o s || is_odd_in_memory o s))

-- one of the rules 10 to 12 and 19 has
abbrev pub is_odd_in_kind : Object → ℕ → Bool
is_odd_in_kind o s =
    links_nowhere o s
    || (informs_of_nothing o s || (has_wrong_entry_size o s || is_unallocated_storage o s))

-- one of all these rules has
unfoldable pub is_odd_section : Object → ℕ → Bool
is_odd_section o s = is_odd_in_place o s || is_odd_in_kind o s
