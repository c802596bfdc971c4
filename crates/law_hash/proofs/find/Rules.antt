-- Each rule has findings of its own number alone: where the two rules on hash sections have none of
-- a number at a section, there is none.
use Rattle.std.proofs.Common.{◌≡◌, ◌<◌, ◌==◌, ℕ, Bool, false, List, [], ◌∷◌, take, refl, ap, ◌∙◌, lit<, arith}
use Rattle.std.specs.Prelude.{◌||◌, codes}
use Rattle.std.specs.List.{flat_map, list_any}
use Rattle.std.proofs.lemmas.Bool.{ne_eqb}
use Rattle.std.proofs.lemmas.List.Folds.{list_any-append}
use Rattle.elf_types.specs.declared.records.Sym.{Sym}
use Rattle.elf_layout.specs.Meeting.{overlap_of}
use Rattle.elf_object.specs.Object.{Object}
use Rattle.elf_object.specs.Due.{all_sections}
use Rattle.elf_lint_findings.specs.Findings.{Rule}
use Rattle.elf_lint_findings.specs.Looking.{is_outside_file, is_ragged_section}
use Rattle.elf_lint_headers.specs.Headers.{has_wrong_size, wrong_header_size, ends_outside, segments_outside_the_file, is_larger_in_file, segments_larger_than_memory}
use Rattle.elf_lint_headers.specs.Names.{lacks_name_table, missing_name_table, has_unreadable_name, unreadable_section_names}
use Rattle.elf_lint_headers.specs.Sections.{is_used_section_0, section_0_in_use, sections_outside_the_file, ragged_sections, has_odd_alignment, odd_alignments, has_unaligned_address, unaligned_addresses, links_nowhere, links_to_no_section, informs_of_nothing, infos_of_no_section, has_wrong_entry_size, wrong_entry_sizes, is_unallocated_storage, unallocated_thread_storage}
use Rattle.elf_lint_headers.specs.Layout.{standing_parts, overlapping_parts}
use Rattle.elf_lint_links.specs.StringTables.{lacks_first_nul, tables_without_first_nul, lacks_last_nul, tables_without_last_nul}
use Rattle.elf_lint_links.specs.Links.{symbols_lack_strings, symbols_without_strings, relocations_lack_symbols, relocations_without_symbols, hashes_lack_symbols, hashes_without_symbols, dynamic_lacks_strings, dynamic_without_strings}
use Rattle.elf_lint_links.specs.Dynamic.{dynamic_lacks_end, dynamic_without_end}
use Rattle.elf_lint_symbols.specs.Symbols.{checked_symbols_of, is_used, at_symbol_0, symbol_0_of, symbol_0_in_use, has_no_name, unreadable_symbol_names, is_late_local, local_symbols_among_the_others, is_early_other, other_symbols_among_the_local, is_of_no_section, symbols_of_no_section}
use Rattle.elf_lint_symbols.specs.Relocations.{symbol_numbers_of, is_by_no_symbol, relocations_at, relocations_by_no_symbol}
use Rattle.elf_lint_links.specs.Chains.Chains.{note_bad, bad_notes, version_bad, bad_versions}
use Rattle.elf_lint_hashes.specs.Hashes.{hashes_not_whole, gnu_hashes_not_whole}
use Rattle.elf_lint.specs.Reach.{is_at}
use Rattle.elf_lint.specs.Rules.{all_rules, findings}
use Rattle.law_hash.proofs.find.Forms.{HasNone, each_none, header_none, segments_none, items_none, symbols_none, chains_none, overlap_none, sections_none}

-- two proofs, of which the second may be of two more
infixr 5 ◌also◌
abbrev ◌also◌ : {A B : Type 0} → A → B → A × B
a also b = (a, b)

module _ (number h : ℕ) (later : 30 < number) (o : Object) where
  other : (k : ℕ) → k < 31 → (k == number) ≡ false
  other k low = ne_eqb k number (λ same. omega (arith, same, low, later))

  -- ---- Rules of other numbers

  wrong_header_size_none : HasNone number h (wrong_header_size o)
  unfolding wrong_header_size
  wrong_header_size_none =
      header_none number h 1 (other 1 (lit< tt)) (codes "wrong header size")
      (has_wrong_size o)

  segments_outside_the_file_none : HasNone number h (segments_outside_the_file o)
  unfolding segments_outside_the_file
  segments_outside_the_file_none =
      segments_none number h 2 (other 2 (lit< tt))
      (codes "outside the file") (ends_outside o) o.phdrs

  missing_name_table_none : HasNone number h (missing_name_table o)
  unfolding missing_name_table
  missing_name_table_none =
      header_none number h 3 (other 3 (lit< tt)) (codes "no name table")
      (lacks_name_table o)

  section_0_in_use_none : HasNone number h (section_0_in_use o)
  unfolding section_0_in_use
  section_0_in_use_none =
      sections_none number h 4 (codes "section 0 is in use")
      (is_used_section_0 o) (all_sections o)
      (λ same. absurd (omega (arith, same, later)))

  unreadable_section_names_none : HasNone number h (unreadable_section_names o)
  unfolding unreadable_section_names
  unreadable_section_names_none =
      sections_none number h 5 (codes "name cannot be read")
      (has_unreadable_name o) (all_sections o)
      (λ same. absurd (omega (arith, same, later)))

  sections_outside_the_file_none : HasNone number h (sections_outside_the_file o)
  unfolding sections_outside_the_file
  sections_outside_the_file_none =
      sections_none number h 6 (codes "outside the file")
      (is_outside_file o) (all_sections o)
      (λ same. absurd (omega (arith, same, later)))

  ragged_sections_none : HasNone number h (ragged_sections o)
  unfolding ragged_sections
  ragged_sections_none =
      sections_none number h 7 (codes "size is no multiple of the item")
      (is_ragged_section o) (all_sections o)
      (λ same. absurd (omega (arith, same, later)))

  odd_alignments_none : HasNone number h (odd_alignments o)
  unfolding odd_alignments
  odd_alignments_none =
      sections_none number h 8 (codes "alignment is no power of two")
      (has_odd_alignment o) (all_sections o)
      (λ same. absurd (omega (arith, same, later)))

  unaligned_addresses_none : HasNone number h (unaligned_addresses o)
  unfolding unaligned_addresses
  unaligned_addresses_none =
      sections_none number h 9 (codes "address is not aligned")
      (has_unaligned_address o) (all_sections o)
      (λ same. absurd (omega (arith, same, later)))

  links_to_no_section_none : HasNone number h (links_to_no_section o)
  unfolding links_to_no_section
  links_to_no_section_none =
      sections_none number h 10 (codes "link to no section")
      (links_nowhere o) (all_sections o)
      (λ same. absurd (omega (arith, same, later)))

  infos_of_no_section_none : HasNone number h (infos_of_no_section o)
  unfolding infos_of_no_section
  infos_of_no_section_none =
      sections_none number h 11 (codes "info names no section")
      (informs_of_nothing o) (all_sections o)
      (λ same. absurd (omega (arith, same, later)))

  wrong_entry_sizes_none : HasNone number h (wrong_entry_sizes o)
  unfolding wrong_entry_sizes
  wrong_entry_sizes_none =
      sections_none number h 12 (codes "wrong entry size")
      (has_wrong_entry_size o) (all_sections o)
      (λ same. absurd (omega (arith, same, later)))

  tables_without_first_nul_none : HasNone number h (tables_without_first_nul o)
  unfolding tables_without_first_nul
  tables_without_first_nul_none =
      sections_none number h 13 (codes "no NUL at the start")
      (lacks_first_nul o) (all_sections o)
      (λ same. absurd (omega (arith, same, later)))

  tables_without_last_nul_none : HasNone number h (tables_without_last_nul o)
  unfolding tables_without_last_nul
  tables_without_last_nul_none =
      sections_none number h 14 (codes "no NUL at the end")
      (lacks_last_nul o) (all_sections o)
      (λ same. absurd (omega (arith, same, later)))

  symbols_without_strings_none : HasNone number h (symbols_without_strings o)
  unfolding symbols_without_strings
  symbols_without_strings_none =
      sections_none number h 15 (codes "link is no string table")
      (symbols_lack_strings o) (all_sections o)
      (λ same. absurd (omega (arith, same, later)))

  relocations_without_symbols_none : HasNone number h (relocations_without_symbols o)
  unfolding relocations_without_symbols
  relocations_without_symbols_none =
      sections_none number h 16 (codes "link is no symbol table")
      (relocations_lack_symbols o) (all_sections o)
      (λ same. absurd (omega (arith, same, later)))

  hashes_without_symbols_none : HasNone number h (hashes_without_symbols o)
  unfolding hashes_without_symbols
  hashes_without_symbols_none =
      sections_none number h 17 (codes "link is no symbol table")
      (hashes_lack_symbols o) (all_sections o)
      (λ same. absurd (omega (arith, same, later)))

  dynamic_without_strings_none : HasNone number h (dynamic_without_strings o)
  unfolding dynamic_without_strings
  dynamic_without_strings_none =
      sections_none number h 18 (codes "link is no string table")
      (dynamic_lacks_strings o) (all_sections o)
      (λ same. absurd (omega (arith, same, later)))

  unallocated_thread_storage_none : HasNone number h (unallocated_thread_storage o)
  unfolding unallocated_thread_storage
  unallocated_thread_storage_none =
      sections_none number h 19 (codes "thread-local but not allocated")
      (is_unallocated_storage o) (all_sections o)
      (λ same. absurd (omega (arith, same, later)))

  overlapping_parts_none : HasNone number h (overlapping_parts o)
  unfolding overlapping_parts
  overlapping_parts_none =
      overlap_none number h (other 20 (lit< tt)) (overlap_of (standing_parts o))

  symbol_0_in_use_none : HasNone number h (symbol_0_in_use o)
  unfolding symbol_0_in_use at_symbol_0
  symbol_0_in_use_none =
      each_none number h (symbol_0_of o)
      (λ s. items_none number h 21 (other 21 (lit< tt)) (codes "symbol 0 is in use") s
      (λ (i : ℕ) (x : Sym). is_used x) (take 1 (checked_symbols_of o s)))
      (all_sections o)

  unreadable_symbol_names_none : HasNone number h (unreadable_symbol_names o)
  unfolding unreadable_symbol_names
  unreadable_symbol_names_none =
      symbols_none number h 22 (other 22 (lit< tt))
      (codes "name cannot be read") has_no_name o

  local_symbols_among_the_others_none : HasNone number h (local_symbols_among_the_others o)
  unfolding local_symbols_among_the_others
  local_symbols_among_the_others_none =
      symbols_none number h 23 (other 23 (lit< tt))
      (codes "local symbol among the others") is_late_local o

  other_symbols_among_the_local_none : HasNone number h (other_symbols_among_the_local o)
  unfolding other_symbols_among_the_local
  other_symbols_among_the_local_none =
      symbols_none number h 24 (other 24 (lit< tt))
      (codes "symbol among the local ones") is_early_other o

  symbols_of_no_section_none : HasNone number h (symbols_of_no_section o)
  unfolding symbols_of_no_section
  symbols_of_no_section_none =
      symbols_none number h 25 (other 25 (lit< tt))
      (codes "symbol of no section") is_of_no_section o

  segments_larger_than_memory_none : HasNone number h (segments_larger_than_memory o)
  unfolding segments_larger_than_memory
  segments_larger_than_memory_none =
      segments_none number h 26 (other 26 (lit< tt))
      (codes "file size is greater than memory size") (is_larger_in_file o) o.phdrs

  relocations_by_no_symbol_none : HasNone number h (relocations_by_no_symbol o)
  unfolding relocations_by_no_symbol relocations_at
  relocations_by_no_symbol_none =
      each_none number h (relocations_at 27 (codes "relocation by no symbol") o)
      (λ s. items_none number h 27 (other 27 (lit< tt)) (codes "relocation by no symbol") s
      (λ (i y : ℕ). is_by_no_symbol o s y) (symbol_numbers_of o s))
      (all_sections o)

  dynamic_without_end_none : HasNone number h (dynamic_without_end o)
  unfolding dynamic_without_end
  dynamic_without_end_none =
      sections_none number h 28 (codes "no end")
      (dynamic_lacks_end o) (all_sections o)
      (λ same. absurd (omega (arith, same, later)))

  bad_notes_none : HasNone number h (bad_notes o)
  unfolding bad_notes
  bad_notes_none =
      chains_none number h 29 (other 29 (lit< tt)) (note_bad o) (all_sections o)

  bad_versions_none : HasNone number h (bad_versions o)
  unfolding bad_versions
  bad_versions_none =
      chains_none number h 30 (other 30 (lit< tt)) (version_bad o) (all_sections o)

  -- ---- All of them

  -- what none of these rules finds
  abbrev AreNone : List Rule → Type 0
  AreNone [] = Unit {0}
  AreNone (rule ∷ rules) = HasNone number h (rule o) × AreNone rules

  all_none : (rules : List Rule) → AreNone rules
      → HasNone number h (flat_map (λ (rule : Rule). rule o) rules)
  all_none [] none = refl
  all_none (rule ∷ rules) none =
      let rest = flat_map (λ (rule : Rule). rule o) rules in
      list_any-append (is_at number h) (rule o) rest
      ∙ ap (λ (b : Bool). b || list_any (is_at number h) rest) none.0
      ∙ all_none rules none.1

  pub findings_none : HasNone number h (hashes_not_whole o)
      → HasNone number h (gnu_hashes_not_whole o) → HasNone number h (findings o)
  unfolding findings
  findings_none hashes gnu_hashes =
      all_none all_rules
      (wrong_header_size_none
      also segments_outside_the_file_none
      also missing_name_table_none
      also section_0_in_use_none
      also unreadable_section_names_none
      also sections_outside_the_file_none
      also ragged_sections_none
      also odd_alignments_none
      also unaligned_addresses_none
      also links_to_no_section_none
      also infos_of_no_section_none
      also wrong_entry_sizes_none
      also tables_without_first_nul_none
      also tables_without_last_nul_none
      also symbols_without_strings_none
      also relocations_without_symbols_none
      also hashes_without_symbols_none
      also dynamic_without_strings_none
      also unallocated_thread_storage_none
      also overlapping_parts_none
      also symbol_0_in_use_none
      also unreadable_symbol_names_none
      also local_symbols_among_the_others_none
      also other_symbols_among_the_local_none
      also symbols_of_no_section_none
      also segments_larger_than_memory_none
      also relocations_by_no_symbol_none
      also dynamic_without_end_none
      also bad_notes_none
      also bad_versions_none
      also hashes
      also gnu_hashes
      also tt {0})
