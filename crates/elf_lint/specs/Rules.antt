-- The rules in their order, and what elflint says of an object.
use Rattle.std.specs.Prelude.{ℕ, List, [], ◌∷◌, length}
use Rattle.std.specs.List.{flat_map}
use Rattle.symbol_lookup.specs.elf_object.Object.{Object}
use Rattle.tool_output.specs.Names.{Name}
use Rattle.tool_output.specs.Reports.{Report}
use Rattle.elf_lint_findings.specs.Findings.{Finding, Rule, findings_report}
use Rattle.elf_lint_headers.specs.Headers.{wrong_header_size, segments_outside_the_file, segments_larger_than_memory}
use Rattle.elf_lint_headers.specs.Names.{missing_name_table, unreadable_section_names}
use Rattle.elf_lint_headers.specs.Sections.{section_0_in_use, sections_outside_the_file, ragged_sections, odd_alignments, unaligned_addresses, links_to_no_section, infos_of_no_section, wrong_entry_sizes, unallocated_thread_storage}
use Rattle.elf_lint_links.specs.StringTables.{tables_without_first_nul, tables_without_last_nul}
use Rattle.elf_lint_links.specs.Links.{symbols_without_strings, relocations_without_symbols, hashes_without_symbols, dynamic_without_strings}
use Rattle.elf_lint_headers.specs.Layout.{overlapping_parts}
use Rattle.elf_lint_symbols.specs.Symbols.{symbol_0_in_use, unreadable_symbol_names, local_symbols_among_the_others, other_symbols_among_the_local, symbols_of_no_section}
use Rattle.elf_lint_symbols.specs.Relocations.{relocations_by_no_symbol}
use Rattle.elf_lint_links.specs.Dynamic.{dynamic_without_end}
use Rattle.elf_lint_links.specs.Chains.Chains.{bad_notes, bad_versions}
use Rattle.elf_lint_hashes.specs.Hashes.{hashes_not_whole, gnu_hashes_not_whole}
use Rattle.elf_lint.specs.declared.rules.RuleOnHeaders.{RuleOnHeaders}
use Rattle.elf_lint.specs.declared.rules.RuleOnHeaders.TheVariants as header_rules
use Rattle.elf_lint.specs.declared.rules.RuleOnSections.{RuleOnSections}
use Rattle.elf_lint.specs.declared.rules.RuleOnSections.TheVariants as section_rules
use Rattle.elf_lint.specs.declared.rules.RuleOnLinks.{RuleOnLinks}
use Rattle.elf_lint.specs.declared.rules.RuleOnLinks.TheVariants as link_rules
use Rattle.elf_lint.specs.declared.rules.RuleOnSymbols.{RuleOnSymbols}
use Rattle.elf_lint.specs.declared.rules.RuleOnSymbols.TheVariants as symbol_rules
use Rattle.elf_lint.specs.declared.rules.LintRule.{LintRule}
use Rattle.elf_lint.specs.declared.rules.LintRule.TheVariants as rules

-- ---- The rules

-- in their order
abbrev pub all_rules : List Rule
all_rules =
    wrong_header_size
    ∷ segments_outside_the_file
    ∷ missing_name_table
    ∷ section_0_in_use
    ∷ unreadable_section_names
    ∷ sections_outside_the_file
    ∷ ragged_sections
    ∷ odd_alignments
    ∷ unaligned_addresses
    ∷ links_to_no_section
    ∷ infos_of_no_section
    ∷ wrong_entry_sizes
    ∷ tables_without_first_nul
    ∷ tables_without_last_nul
    ∷ symbols_without_strings
    ∷ relocations_without_symbols
    ∷ hashes_without_symbols
    ∷ dynamic_without_strings
    ∷ unallocated_thread_storage
    ∷ overlapping_parts
    ∷ symbol_0_in_use
    ∷ unreadable_symbol_names
    ∷ local_symbols_among_the_others
    ∷ other_symbols_among_the_local
    ∷ symbols_of_no_section
    ∷ segments_larger_than_memory
    ∷ relocations_by_no_symbol
    ∷ dynamic_without_end
    ∷ bad_notes
    ∷ bad_versions
    ∷ hashes_not_whole
    ∷ gnu_hashes_not_whole
    ∷ []

-- each goes over the sections at most once
unfoldable pub lint_passes : ℕ
lint_passes = length all_rules

-- what a rule on headers finds
abbrev pub finds_by_header : RuleOnHeaders → Rule
finds_by_header header_rules.WrongHeaderSize = wrong_header_size
finds_by_header header_rules.SegmentsOutsideTheFile = segments_outside_the_file
finds_by_header header_rules.MissingNameTable = missing_name_table
finds_by_header header_rules.UnreadableSectionNames = unreadable_section_names
finds_by_header header_rules.OverlappingParts = overlapping_parts
finds_by_header header_rules.SegmentsLargerThanMemory = segments_larger_than_memory

-- what a rule on sections finds
abbrev pub finds_by_section : RuleOnSections → Rule
finds_by_section section_rules.Section0InUse = section_0_in_use
finds_by_section section_rules.SectionsOutsideTheFile = sections_outside_the_file
finds_by_section section_rules.RaggedSections = ragged_sections
finds_by_section section_rules.OddAlignments = odd_alignments
finds_by_section section_rules.UnalignedAddresses = unaligned_addresses
finds_by_section section_rules.LinksToNoSection = links_to_no_section
finds_by_section section_rules.InfosOfNoSection = infos_of_no_section
finds_by_section section_rules.WrongEntrySizes = wrong_entry_sizes
finds_by_section section_rules.UnallocatedThreadStorage = unallocated_thread_storage

-- what a rule on links finds
abbrev pub finds_by_link : RuleOnLinks → Rule
finds_by_link link_rules.TablesWithoutFirstNul = tables_without_first_nul
finds_by_link link_rules.TablesWithoutLastNul = tables_without_last_nul
finds_by_link link_rules.SymbolsWithoutStrings = symbols_without_strings
finds_by_link link_rules.RelocationsWithoutSymbols = relocations_without_symbols
finds_by_link link_rules.HashesWithoutSymbols = hashes_without_symbols
finds_by_link link_rules.DynamicWithoutStrings = dynamic_without_strings
finds_by_link link_rules.DynamicWithoutEnd = dynamic_without_end
finds_by_link link_rules.BadNotes = bad_notes
finds_by_link link_rules.BadVersions = bad_versions

-- what a rule on symbols finds
abbrev pub finds_by_symbol : RuleOnSymbols → Rule
finds_by_symbol symbol_rules.Symbol0InUse = symbol_0_in_use
finds_by_symbol symbol_rules.UnreadableSymbolNames = unreadable_symbol_names
finds_by_symbol symbol_rules.LocalSymbolsAmongTheOthers = local_symbols_among_the_others
finds_by_symbol symbol_rules.OtherSymbolsAmongTheLocal = other_symbols_among_the_local
finds_by_symbol symbol_rules.SymbolsOfNoSection = symbols_of_no_section
finds_by_symbol symbol_rules.RelocationsByNoSymbol = relocations_by_no_symbol
finds_by_symbol symbol_rules.HashesNotWhole = hashes_not_whole
finds_by_symbol symbol_rules.GnuHashesNotWhole = gnu_hashes_not_whole

-- what a rule finds
abbrev pub finds : LintRule → Rule
finds (rules.Header rule) = finds_by_header rule
finds (rules.Section rule) = finds_by_section rule
finds (rules.Link rule) = finds_by_link rule
finds (rules.Symbol rule) = finds_by_symbol rule

-- ---- Findings

-- by rule, then by section or segment, then by item
unfoldable pub findings : Object → List Finding
findings o = flat_map (λ (rule : Rule). rule o) all_rules

unfoldable pub lint_report : Name → Object → Report
lint_report name o = findings_report name (findings o)
