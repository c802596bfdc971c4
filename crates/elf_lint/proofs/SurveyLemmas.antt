-- What one look at all headers tells of the rules, and one at all symbols.
use Rattle.std.proofs.Common.{◌≡◌, ℕ, ◌+◌, ◌<◌, ◌≤◌, ◌==◌, ◌&&◌, ◌||◌, not, Bool, true, false, List, [], length, None, IsTrue, refl, sym, ap, ◌∙◌, subst, below_more, arith}
use Rattle.std.specs.Prelude.{if◌then◌else◌, codes}
use Rattle.std.specs.List.{range_with_len}
use Rattle.std.proofs.lemmas.Bool.{not-true}
use Rattle.elf_types.specs.declared.constants.TheConstants.{SHT_DYNAMIC, SHT_HASH, SHT_NOTE, SHT_GNU_HASH, SHT_GNU_VERDEF, SHT_GNU_VERNEED}
use Rattle.symbol_lookup.specs.elf_object.Object.{Object}
use Rattle.symbol_lookup.specs.elf_object.Sections.{header_at, is_relocations, is_of}
use Rattle.elf_lint_findings.specs.declared.places.Place.TheVariants.{Section}
use Rattle.elf_lint_findings.specs.Findings.{at_items, at_sections, finding, found_if}
use Rattle.elf_lint_findings.specs.Looking.{is_plain, is_string_table, is_symbol_table, is_outside_file, is_ragged_section, links_to_symbols}
use Rattle.elf_lint_headers.specs.Sections as headers
use Rattle.elf_lint_headers.specs.Sections.{is_odd_section, is_odd_in_place, is_odd_in_memory, is_odd_in_kind, section_0_in_use, sections_outside_the_file, ragged_sections, odd_alignments, unaligned_addresses, links_to_no_section, infos_of_no_section, wrong_entry_sizes, unallocated_thread_storage}
use Rattle.elf_lint_links.specs.StringTables.{is_plain_string_table, lacks_first_nul, lacks_last_nul, tables_without_first_nul, tables_without_last_nul}
use Rattle.elf_lint_links.specs.Links as links
use Rattle.elf_lint_links.specs.Links.{is_linked_wrongly, symbols_without_strings, relocations_without_symbols, hashes_without_symbols, dynamic_without_strings}
use Rattle.elf_lint_links.specs.Dynamic.{dynamic_lacks_end, dynamic_without_end}
use Rattle.elf_lint_links.specs.Chains.Chains.{chain_found, at_bad_chains, is_plain_of, note_bad, bad_notes, version_bad, bad_versions}
use Rattle.elf_lint_symbols.specs.Symbols.{AllSymbolsSound}
use Rattle.elf_lint_symbols.specs.Relocations.{has_relocations, symbol_numbers, symbol_numbers_of, is_by_no_symbol, relocations_at, relocations_by_no_symbol}
use Rattle.elf_lint_symbols.proofs.SoundLemmas.{none_below, either, second_fails, no_tables}
use Rattle.elf_lint_hashes.specs.Hashes.{has_words_of_symbols, is_broken_hash, hashes_not_whole, has_bytes_of_symbols, is_broken_gnu_hash, gnu_hashes_not_whole}
use Rattle.elf_lint.specs.declared.rules.RuleOnSections.{RuleOnSections}
use Rattle.elf_lint.specs.declared.rules.RuleOnSections.TheVariants as section_rules
use Rattle.elf_lint.specs.declared.rules.RuleOnLinks.{RuleOnLinks}
use Rattle.elf_lint.specs.declared.rules.RuleOnLinks.TheVariants as link_rules
use Rattle.elf_lint.specs.declared.rules.RuleOnSymbols.{RuleOnSymbols}
use Rattle.elf_lint.specs.declared.rules.RuleOnSymbols.TheVariants as symbol_rules
use Rattle.elf_lint.specs.declared.rules.LintRule.{LintRule}
use Rattle.elf_lint.specs.declared.rules.LintRule.TheVariants as rules
use Rattle.elf_lint.specs.declared.survey.Survey.{Survey}
use Rattle.elf_lint.specs.Rules.{finds, finds_by_section, finds_by_link, finds_by_symbol}
use Rattle.elf_lint.specs.Survey.{survey_none, is_odd, is_notes, is_of_linking, NonePasses, IsSurveyOf, clears, clears_link, clears_symbol, ClearsRules, without_symbols, with_symbols}

-- ---- Tests

first_fails : (a b : Bool) → a ≡ false → (a && b) ≡ false
first_fails a b is = ap (λ (t : Bool). t && b) is

record AllFail (a b c d : Bool) : Type 0 where
  pub one : a ≡ false
  pub two : b ≡ false
  pub three : c ≡ false
  pub four : d ≡ false

all_fail : (a b c d : Bool) → (a || (b || (c || d))) ≡ false → AllFail a b c d
all_fail a b c d none =
    let p = either a (b || (c || d)) none in
    let q = either b (c || d) p.1 in
    let r = either c d q.1 in record { one = p.0; two = q.0; three = r.0; four = r.1 }

-- one section more
pub next_fails : (flag here : Bool) (test : ℕ → Bool) (n : ℕ) → NonePasses flag test n
    → here ≡ test n → NonePasses (flag || here) test (n + 1)
next_fails flag here test n before is none =
    let p = either flag here none in
    below_more (λ (s : ℕ). test s ≡ false) n (before p.0) (sym is ∙ p.1)

-- fewer sections
fewer_fail : (flag : Bool) (test : ℕ → Bool) (m n : ℕ) → m ≤ n → NonePasses flag test n
    → NonePasses flag test m
fewer_fail flag test m n le fails none s lt = fails none s (omega (arith, le, lt))

pub fewer_sections : (o : Object) (m n : ℕ) (v : Survey) → m ≤ n → IsSurveyOf o n v
    → IsSurveyOf o m v
fewer_sections o m n v le is = record {
  odd = fewer_fail v.odd (is_odd o) m n le is.odd;
  strings = fewer_fail v.strings (λ (s : ℕ). is_string_table (header_at o s)) m n le is.strings;
  symbols = fewer_fail v.symbols (λ (s : ℕ). is_symbol_table (header_at o s)) m n le is.symbols;
  relocations = fewer_fail v.relocations (λ (s : ℕ). is_relocations (header_at o s)) m n le
      is.relocations;
  notes = fewer_fail v.notes (λ (s : ℕ). is_notes (header_at o s)) m n le is.notes;
  linking = fewer_fail v.linking (λ (s : ℕ). is_of_linking (header_at o s)) m n le is.linking;
}

-- of no sections
pub survey_begins : (o : Object) → IsSurveyOf o 0 survey_none
survey_begins o = record {
  odd = λ none s lt. absurd (omega arith);
  strings = λ none s lt. absurd (omega arith);
  symbols = λ none s lt. absurd (omega arith);
  relocations = λ none s lt. absurd (omega arith);
  notes = λ none s lt. absurd (omega arith);
  linking = λ none s lt. absurd (omega arith);
}

-- ---- Rules on headers

-- where a test fails at all sections
nothing_at : (number : ℕ) (text : List ℕ) (test : ℕ → Bool) (n : ℕ)
    → ((s : ℕ) → s < n → test s ≡ false) → at_sections number text test (range_with_len 0 n) ≡ []
unfolding at_sections
nothing_at number text test n fails =
    none_below (λ (s : ℕ). found_if (test s) (finding number (Section s) text)) n
    (λ s lt. ap (λ (b : Bool). found_if b (finding number (Section s) text)) (fails s lt))

module _ (o : Object) where
  module _ (s : ℕ) (even : is_odd o s ≡ false) where
    of_header : (is_odd_in_place o s ≡ false) × (is_odd_in_kind o s ≡ false)
    unfolding is_odd_section
    of_header =
        either (is_odd_in_place o s) (is_odd_in_kind o s)
        (either (is_odd_section o s) (is_linked_wrongly o s) even).0

    in_place : AllFail (headers.is_used_section_0 o s) (is_outside_file o s) (is_ragged_section o s)
        (is_odd_in_memory o s)
    in_place =
        all_fail (headers.is_used_section_0 o s) (is_outside_file o s) (is_ragged_section o s)
        (is_odd_in_memory o s) of_header.0

    in_memory : (headers.has_odd_alignment o s ≡ false)
        × (headers.has_unaligned_address o s ≡ false)
    in_memory =
        either (headers.has_odd_alignment o s) (headers.has_unaligned_address o s) in_place.four

    in_kind : AllFail (headers.links_nowhere o s) (headers.informs_of_nothing o s)
        (headers.has_wrong_entry_size o s) (headers.is_unallocated_storage o s)
    in_kind =
        all_fail (headers.links_nowhere o s) (headers.informs_of_nothing o s)
        (headers.has_wrong_entry_size o s) (headers.is_unallocated_storage o s) of_header.1

    in_links : AllFail (links.symbols_lack_strings o s) (links.relocations_lack_symbols o s)
        (links.hashes_lack_symbols o s) (links.dynamic_lacks_strings o s)
    unfolding is_linked_wrongly
    in_links =
        all_fail (links.symbols_lack_strings o s) (links.relocations_lack_symbols o s)
        (links.hashes_lack_symbols o s) (links.dynamic_lacks_strings o s)
        (either (is_odd_section o s) (is_linked_wrongly o s) even).1

  abbrev n : ℕ
  n = length o.sections

  module _ (even : (s : ℕ) → s < length o.sections → is_odd o s ≡ false) where
    by_section : (rule : RuleOnSections) → finds_by_section rule o ≡ []
    unfolding section_0_in_use sections_outside_the_file ragged_sections odd_alignments unaligned_addresses links_to_no_section infos_of_no_section wrong_entry_sizes unallocated_thread_storage
    by_section section_rules.Section0InUse =
        nothing_at 4 (codes "section 0 is in use") (headers.is_used_section_0 o) n
        (λ s lt. (in_place s (even s lt)).one)
    by_section section_rules.SectionsOutsideTheFile =
        nothing_at 6 (codes "outside the file") (is_outside_file o) n
        (λ s lt. (in_place s (even s lt)).two)
    by_section section_rules.RaggedSections =
        nothing_at 7 (codes "size is no multiple of the item") (is_ragged_section o) n
        (λ s lt. (in_place s (even s lt)).three)
    by_section section_rules.OddAlignments =
        nothing_at 8 (codes "alignment is no power of two") (headers.has_odd_alignment o) n
        (λ s lt. (in_memory s (even s lt)).0)
    by_section section_rules.UnalignedAddresses =
        nothing_at 9 (codes "address is not aligned") (headers.has_unaligned_address o) n
        (λ s lt. (in_memory s (even s lt)).1)
    by_section section_rules.LinksToNoSection =
        nothing_at 10 (codes "link to no section") (headers.links_nowhere o) n
        (λ s lt. (in_kind s (even s lt)).one)
    by_section section_rules.InfosOfNoSection =
        nothing_at 11 (codes "info names no section") (headers.informs_of_nothing o) n
        (λ s lt. (in_kind s (even s lt)).two)
    by_section section_rules.WrongEntrySizes =
        nothing_at 12 (codes "wrong entry size") (headers.has_wrong_entry_size o) n
        (λ s lt. (in_kind s (even s lt)).three)
    by_section section_rules.UnallocatedThreadStorage =
        nothing_at 19 (codes "thread-local but not allocated") (headers.is_unallocated_storage o) n
        (λ s lt. (in_kind s (even s lt)).four)

    no_lost_strings : symbols_without_strings o ≡ []
    unfolding symbols_without_strings
    no_lost_strings =
        nothing_at 15 (codes "link is no string table") (links.symbols_lack_strings o) n
        (λ s lt. (in_links s (even s lt)).one)

    no_lost_symbols : relocations_without_symbols o ≡ []
    unfolding relocations_without_symbols
    no_lost_symbols =
        nothing_at 16 (codes "link is no symbol table") (links.relocations_lack_symbols o) n
        (λ s lt. (in_links s (even s lt)).two)

    no_lost_hashes : hashes_without_symbols o ≡ []
    unfolding hashes_without_symbols
    no_lost_hashes =
        nothing_at 17 (codes "link is no symbol table") (links.hashes_lack_symbols o) n
        (λ s lt. (in_links s (even s lt)).three)

    no_lost_dynamic : dynamic_without_strings o ≡ []
    unfolding dynamic_without_strings
    no_lost_dynamic =
        nothing_at 18 (codes "link is no string table") (links.dynamic_lacks_strings o) n
        (λ s lt. (in_links s (even s lt)).four)

  -- ---- Rules on sections of some types

  -- a section that is none of what a rule looks at
  no_first : (s : ℕ) → is_string_table (header_at o s) ≡ false → lacks_first_nul o s ≡ false
  unfolding lacks_first_nul is_plain_string_table
  no_first s is = first_fails _ _ (second_fails (is_plain o s) (is_string_table (header_at o s)) is)

  no_last : (s : ℕ) → is_string_table (header_at o s) ≡ false → lacks_last_nul o s ≡ false
  unfolding lacks_last_nul is_plain_string_table
  no_last s is = first_fails _ _ (second_fails (is_plain o s) (is_string_table (header_at o s)) is)

  of_type : (s stype : ℕ) → ((header_at o s).stype == stype) ≡ false
      → is_plain_of o s stype ≡ false
  unfolding is_plain_of
  of_type s stype is = second_fails (is_plain o s) ((header_at o s).stype == stype) is

  unless : {A : Type 0} (b : Bool) (x y : A) → b ≡ false → (if b then x else y) ≡ y
  unless b x y is = ap (λ (t : Bool). if t then x else y) is

  no_note : (s : ℕ) → is_notes (header_at o s) ≡ false → note_bad o s ≡ None
  unfolding note_bad
  no_note s is = unless (is_plain_of o s SHT_NOTE) _ None (of_type s SHT_NOTE is)

  no_relocations : (s : ℕ) → is_relocations (header_at o s) ≡ false → symbol_numbers_of o s ≡ []
  unfolding symbol_numbers_of has_relocations
  no_relocations s is =
      unless (is_plain o s && is_relocations (header_at o s)) (symbol_numbers o s) []
      (second_fails (is_plain o s) (is_relocations (header_at o s)) is)

  no_named : (number : ℕ) (text : List ℕ) (s : ℕ) → symbol_numbers_of o s ≡ []
      → relocations_at number text o s ≡ []
  unfolding relocations_at at_items
  no_named number text s none =
      ap (at_items number text s (λ i y. is_by_no_symbol o s y)) none

  module _ (s : ℕ) (none : is_of_linking (header_at o s) ≡ false) where
    abbrev t : ℕ
    t = (header_at o s).stype

    of_hashes : (t == SHT_DYNAMIC) ≡ false
        × (t == SHT_HASH || (t == SHT_GNU_HASH || (t == SHT_GNU_VERDEF || t == SHT_GNU_VERNEED)))
        ≡ false
    of_hashes = either (t == SHT_DYNAMIC) _ none

    of_types : AllFail (t == SHT_HASH) (t == SHT_GNU_HASH) (t == SHT_GNU_VERDEF)
        (t == SHT_GNU_VERNEED)
    of_types =
        all_fail (t == SHT_HASH) (t == SHT_GNU_HASH) (t == SHT_GNU_VERDEF) (t == SHT_GNU_VERNEED)
        of_hashes.1

    no_dynamic : dynamic_lacks_end o s ≡ false
    unfolding dynamic_lacks_end
    no_dynamic = second_fails (is_plain o s) _ (first_fails (t == SHT_DYNAMIC) _ of_hashes.0)

    no_versions : version_bad o s ≡ None
    unfolding version_bad
    no_versions =
        unless (is_plain_of o s SHT_GNU_VERDEF) _ _ (of_type s SHT_GNU_VERDEF of_types.three)
        ∙ unless (is_plain_of o s SHT_GNU_VERNEED) _ None
        (of_type s SHT_GNU_VERNEED of_types.four)

    no_hash : is_broken_hash o s ≡ false
    unfolding is_broken_hash has_words_of_symbols is_of
    no_hash =
        first_fails _ _ (second_fails (is_plain o s) _
        (first_fails _ (links_to_symbols o s) (first_fails (t == SHT_HASH) _ of_types.one)))

    no_gnu_hash : is_broken_gnu_hash o s ≡ false
    unfolding is_broken_gnu_hash has_bytes_of_symbols
    no_gnu_hash =
        first_fails _ _ (second_fails (is_plain o s) _
        (first_fails (t == SHT_GNU_HASH) _ of_types.two))

  -- ---- A survey of all sections

  module _ (v : Survey) (is : IsSurveyOf o (length o.sections) v) where
    flag_down : (b : Bool) → not b ≡ true → b ≡ false
    flag_down b down = not-true b down

    by_link : (rule : RuleOnLinks) → clears_link v rule ≡ true → finds_by_link rule o ≡ []
    unfolding tables_without_first_nul tables_without_last_nul dynamic_without_end bad_notes bad_versions at_bad_chains
    by_link link_rules.TablesWithoutFirstNul clear =
        nothing_at 13 (codes "no NUL at the start") (lacks_first_nul o) n
        (λ s lt. no_first s (is.strings (not-true v.strings clear) s lt))
    by_link link_rules.TablesWithoutLastNul clear =
        nothing_at 14 (codes "no NUL at the end") (lacks_last_nul o) n
        (λ s lt. no_last s (is.strings (not-true v.strings clear) s lt))
    by_link link_rules.SymbolsWithoutStrings clear =
        no_lost_strings (is.odd (not-true v.odd clear))
    by_link link_rules.RelocationsWithoutSymbols clear =
        no_lost_symbols (is.odd (not-true v.odd clear))
    by_link link_rules.HashesWithoutSymbols clear =
        no_lost_hashes (is.odd (not-true v.odd clear))
    by_link link_rules.DynamicWithoutStrings clear =
        no_lost_dynamic (is.odd (not-true v.odd clear))
    by_link link_rules.DynamicWithoutEnd clear =
        nothing_at 28 (codes "no end") (dynamic_lacks_end o) n
        (λ s lt. no_dynamic s (is.linking (not-true v.linking clear) s lt))
    by_link link_rules.BadNotes clear =
        none_below (λ (s : ℕ). chain_found 29 s (note_bad o s)) n
        (λ s lt. ap (chain_found 29 s) (no_note s (is.notes (not-true v.notes clear) s lt)))
    by_link link_rules.BadVersions clear =
        none_below (λ (s : ℕ). chain_found 30 s (version_bad o s)) n
        (λ s lt. ap (chain_found 30 s)
        (no_versions s (is.linking (not-true v.linking clear) s lt)))

    sound : v.symbols ≡ false → AllSymbolsSound o
    sound none = no_tables o (is.symbols none)

    by_symbol : (rule : RuleOnSymbols) → clears_symbol v rule ≡ true → finds_by_symbol rule o ≡ []
    unfolding relocations_by_no_symbol hashes_not_whole gnu_hashes_not_whole
    by_symbol symbol_rules.Symbol0InUse clear = (sound (not-true v.symbols clear)).first
    by_symbol symbol_rules.UnreadableSymbolNames clear = (sound (not-true v.symbols clear)).names
    by_symbol symbol_rules.LocalSymbolsAmongTheOthers clear =
        (sound (not-true v.symbols clear)).late
    by_symbol symbol_rules.OtherSymbolsAmongTheLocal clear =
        (sound (not-true v.symbols clear)).early
    by_symbol symbol_rules.SymbolsOfNoSection clear = (sound (not-true v.symbols clear)).sections
    by_symbol symbol_rules.RelocationsByNoSymbol clear =
        none_below (relocations_at 27 (codes "relocation by no symbol") o) n
        (λ s lt. no_named 27 (codes "relocation by no symbol") s
        (no_relocations s (is.relocations (not-true v.relocations clear) s lt)))
    by_symbol symbol_rules.HashesNotWhole clear =
        nothing_at 31 (codes "hash is not whole") (is_broken_hash o) n
        (λ s lt. no_hash s (is.linking (not-true v.linking clear) s lt))
    by_symbol symbol_rules.GnuHashesNotWhole clear =
        nothing_at 32 (codes "hash is not whole") (is_broken_gnu_hash o) n
        (λ s lt. no_gnu_hash s (is.linking (not-true v.linking clear) s lt))

    by_rule : (rule : LintRule) → clears v rule ≡ true → finds rule o ≡ []
    by_rule (rules.Header rule) clear = cc
    by_rule (rules.Section rule) clear = by_section (is.odd (not-true v.odd clear)) rule
    by_rule (rules.Link rule) clear = by_link rule clear
    by_rule (rules.Symbol rule) clear = by_symbol rule clear

    pub survey_clears : (told : Bool) → ClearsRules told o v
    survey_clears told = λ known rule clear. by_rule rule clear

  -- ---- And one of all symbols

  module _ (told : Bool) (v : Survey) (sound : IsTrue told → AllSymbolsSound o)
      (is : ClearsRules told o v) where
    sound_symbol : IsTrue told → (rule : RuleOnSymbols)
        → clears_symbol (without_symbols v) rule ≡ true → finds_by_symbol rule o ≡ []
    sound_symbol known symbol_rules.Symbol0InUse clear = (sound known).first
    sound_symbol known symbol_rules.UnreadableSymbolNames clear = (sound known).names
    sound_symbol known symbol_rules.LocalSymbolsAmongTheOthers clear = (sound known).late
    sound_symbol known symbol_rules.OtherSymbolsAmongTheLocal clear = (sound known).early
    sound_symbol known symbol_rules.SymbolsOfNoSection clear = (sound known).sections
    sound_symbol known symbol_rules.RelocationsByNoSymbol clear =
        is known (rules.Symbol symbol_rules.RelocationsByNoSymbol) clear
    sound_symbol known symbol_rules.HashesNotWhole clear =
        is known (rules.Symbol symbol_rules.HashesNotWhole) clear
    sound_symbol known symbol_rules.GnuHashesNotWhole clear =
        is known (rules.Symbol symbol_rules.GnuHashesNotWhole) clear

    link_stays : IsTrue told → (rule : RuleOnLinks)
        → clears_link (without_symbols v) rule ≡ true → finds_by_link rule o ≡ []
    link_stays known link_rules.TablesWithoutFirstNul clear = is known (rules.Link link_rules.TablesWithoutFirstNul) clear
    link_stays known link_rules.TablesWithoutLastNul clear = is known (rules.Link link_rules.TablesWithoutLastNul) clear
    link_stays known link_rules.SymbolsWithoutStrings clear = is known (rules.Link link_rules.SymbolsWithoutStrings) clear
    link_stays known link_rules.RelocationsWithoutSymbols clear = is known (rules.Link link_rules.RelocationsWithoutSymbols) clear
    link_stays known link_rules.HashesWithoutSymbols clear = is known (rules.Link link_rules.HashesWithoutSymbols) clear
    link_stays known link_rules.DynamicWithoutStrings clear = is known (rules.Link link_rules.DynamicWithoutStrings) clear
    link_stays known link_rules.DynamicWithoutEnd clear = is known (rules.Link link_rules.DynamicWithoutEnd) clear
    link_stays known link_rules.BadNotes clear = is known (rules.Link link_rules.BadNotes) clear
    link_stays known link_rules.BadVersions clear = is known (rules.Link link_rules.BadVersions) clear

    sound_rule : IsTrue told → (rule : LintRule) → clears (without_symbols v) rule ≡ true
        → finds rule o ≡ []
    sound_rule known (rules.Header rule) clear = cc
    sound_rule known (rules.Section rule) clear = is known (rules.Section rule) clear
    sound_rule known (rules.Link rule) clear = link_stays known rule clear
    sound_rule known (rules.Symbol rule) clear = sound_symbol known rule clear

    symbols_cleared : ClearsRules told o (without_symbols v)
    symbols_cleared = λ known rule clear. sound_rule known rule clear

  pub symbols_told : (told : Bool) (v : Survey) (sound : Bool)
      → (IsTrue told → sound ≡ true → AllSymbolsSound o) → ClearsRules told o v
      → ClearsRules told o (with_symbols sound v)
  symbols_told told v true sound is = symbols_cleared told v (λ known. sound known refl) is
  symbols_told told v false sound is = is

-- a step that leaves the object leaves what is told of it
pub clears_stay : (told u : Bool) (o m : Object) (v : Survey) → u ≡ told → m ≡ o
    → ClearsRules told o v → ClearsRules u m v
clears_stay told u o m v same object is = λ known rule clear.
    subst (λ (x : Object). finds rule x ≡ []) (sym object)
    (is (subst (λ (b : Bool). IsTrue b) same known) rule clear)
