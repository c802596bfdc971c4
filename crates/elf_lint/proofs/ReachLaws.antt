-- Hash reach, by what elflint finds: where no finding of its rule is at a hash section, that is whole.
use Rattle.std.proofs.Common.{◌≡◌, ◌<◌, ◌==◌, ◌&&◌, ◌||◌, not, ℕ, Bool, true, false, List, length, get_or, None, Ok, refl, sym, ap, ◌∙◌, lit<, arith}
use Rattle.std.specs.Prelude.{codes, if◌then◌else◌}
use Rattle.std.specs.List.{list_any}
use Rattle.std.proofs.lemmas.Bool.{not-true, eqb-true, ne_eqb}
use Rattle.elf_types.specs.Kinds.{is_compressed, kind_of_type, section_kind}
use Rattle.elf_types.specs.declared.constants.TheConstants.{SHT_HASH, SHT_GNU_HASH}
use Rattle.elf_types.specs.declared.records.Kind.TheVariants as kinds
use Rattle.elf_types.specs.declared.records.Shdr.{Shdr}
use Rattle.elf_ident.specs.Front.{zero_shdr}
use Rattle.symbol_lookup.specs.elf_object.Object.{Object}
use Rattle.symbol_lookup.specs.elf_object.Open.{opened}
use Rattle.symbol_lookup.specs.elf_object.Answers.{bytes_of, words_of, items_at, same_kind, lend_refusal}
use Rattle.symbol_lookup.specs.elf_object.Sections.{header_at, is_of}
use Rattle.symbol_lookup.specs.hash_model.HashSections.{is_whole_sysv, is_whole_gnu}
use Rattle.symbol_lookup.specs.hash_model.Listed.{listed_names}
use Rattle.elf_lint_findings.specs.Findings.{Finding, Rule}
use Rattle.elf_lint_findings.specs.Looking.{is_looked_at, is_plain, is_symbol_table, linked_header, links_to_symbols, section_words, data_bytes}
use Rattle.elf_lint.proofs.OpenedLemmas.{both, is_there, lend_passes}
use Rattle.elf_lint_findings.proofs.LentLemmas.{lent}
use Rattle.elf_lint_hashes.specs.Hashes.{has_words_of_symbols, is_broken_hash, hashes_not_whole, has_bytes_of_symbols, is_broken_gnu_hash, gnu_hashes_not_whole}
use Rattle.elf_lint_headers.specs.Headers.{wrong_header_size}
use Rattle.elf_lint.specs.Rules.{all_rules, findings}
use Rattle.elf_lint.specs.Reach.{is_at, finds_nothing_at, is_hash, is_gnu_hash, LinksIntact, FoundAsListed}
use Rattle.elf_lint.proofs.NoFindings.{none_of, fails_at}
use Rattle.symbol_lookup.specs.Laws.{IsWholeSysv, IsWholeGnu}
use Rattle.symbol_lookup.proofs.ReachLaws.{hash_reach}

-- ---- The rules

all_are : length all_rules ≡ 32
all_are = refl

module _ (o : Object) where
  abbrev by : Rule → List Finding
  by rule = rule o

  -- what no finding of all is, no finding of a rule is
  of_rule : (test : Finding → Bool) (i : ℕ) → i < 32 → not (list_any test (findings o)) ≡ true → list_any test (get_or all_rules i wrong_header_size o) ≡ false
  unfolding findings
  of_rule test i below none =
      none_of test by all_rules i wrong_header_size (omega (arith, below, all_are)) (not-true (list_any test (findings o)) none)

  hash_passes : (h : ℕ) → h < length o.sections → finds_nothing_at 31 o h ≡ true → is_broken_hash o h ≡ false
  unfolding hashes_not_whole
  hash_passes h there none = fails_at 31 (codes "hash is not whole") (is_broken_hash o) h (length o.sections) there (of_rule (is_at 31 h) 30 (lit< tt) none)

  gnu_passes : (h : ℕ) → h < length o.sections → finds_nothing_at 32 o h ≡ true → is_broken_gnu_hash o h ≡ false
  unfolding gnu_hashes_not_whole
  gnu_passes h there none = fails_at 32 (codes "hash is not whole") (is_broken_gnu_hash o) h (length o.sections) there (of_rule (is_at 32 h) 31 (lit< tt) none)

-- ---- What the rules look at

not_false : (b : Bool) → not b ≡ false → b ≡ true
not_false true is = refl
not_false false is = cc

no_hash : is_hash zero_shdr ≡ false
unfolding is_of zero_shdr
no_hash = refl

no_gnu_hash : is_gnu_hash zero_shdr ≡ false
unfolding zero_shdr
no_gnu_hash = refl

no_table : is_symbol_table zero_shdr ≡ false
unfolding is_symbol_table is_of zero_shdr
no_table = refl

-- words are not compressed
not_compressed : (h : Shdr) → same_kind (section_kind h) kinds.Word ≡ true → is_compressed h.flags ≡ false
unfolding section_kind
not_compressed h is = by_tests (h.stype == 0 || h.stype == 8) (is_compressed h.flags) is
  where
    by_tests : (a b : Bool) → same_kind (if a then kinds.Empty else (if b then kinds.Bytes else kind_of_type h.stype h.entsize)) kinds.Word ≡ true → b ≡ false
    by_tests true b is = cc
    by_tests false true is = cc
    by_tests false false is = refl

-- a symbol table has symbols
table_kind : (h : Shdr) → is_symbol_table h ≡ true → same_kind (section_kind h) kinds.Sym ≡ true
unfolding is_symbol_table is_of
table_kind h is = by_tests (h.stype == 2) (h.stype == 11) (same_kind (section_kind h) kinds.Sym) is
  where
    by_tests : (a b c : Bool) → (a && c || b && c) ≡ true → c ≡ true
    by_tests a b true is = refl
    by_tests true true false is = cc
    by_tests true false false is = cc
    by_tests false true false is = cc
    by_tests false false false is = cc

-- GNU's hash section has bytes
gnu_kind : (h : Shdr) → is_gnu_hash h ≡ true → same_kind (section_kind h) kinds.Bytes ≡ true
unfolding section_kind kind_of_type
gnu_kind h is =
    let tests = both (h.stype == SHT_GNU_HASH) (not (is_compressed h.flags)) is in
    rw (eqb-true h.stype SHT_GNU_HASH tests.0, not-true (is_compressed h.flags) tests.1) refl

module _ (image : List ℕ) (o : Object) (is : opened image ≡ Ok o) (h : ℕ) where
  module _ (test : Shdr → Bool) (links : LinksIntact test o h) where
    later_section : (h == 0) ≡ false
    later_section = ne_eqb h 0 (omega (arith, links.later))

    table_there : (header_at o h).link < length o.sections
    unfolding linked_header
    table_there = is_there o (header_at o h).link is_symbol_table no_table links.table

    table_lent : lend_refusal o kinds.Sym (header_at o h).link 0 ≡ None
    unfolding linked_header
    table_lent = lend_passes image o is (header_at o h).link table_there links.linked kinds.Sym (table_kind (header_at o (header_at o h).link) links.table)

    symbols_linked : links_to_symbols o h ≡ true
    unfolding links_to_symbols
    symbols_linked = rw (links.table, table_lent) refl

    plain : is_compressed (header_at o h).flags ≡ false → is_plain o h ≡ true
    unfolding is_plain is_looked_at
    plain flat = rw (later_section, links.intact, flat) refl

  module _ (links : LinksIntact is_hash o h) where
    hash_there : h < length o.sections
    hash_there = is_there o h is_hash no_hash links.passes

    word_kind : same_kind (section_kind (header_at o h)) kinds.Word ≡ true
    unfolding is_of
    word_kind = (both ((header_at o h).stype == SHT_HASH) (same_kind (section_kind (header_at o h)) kinds.Word) links.passes).1

    words_lent : lend_refusal o kinds.Word h 0 ≡ None
    words_lent = lend_passes image o is h hash_there links.intact kinds.Word word_kind

    looked_at : has_words_of_symbols o h ≡ true
    unfolding has_words_of_symbols
    looked_at = rw (plain is_hash links (not_compressed (header_at o h) word_kind), links.passes, symbols_linked is_hash links) refl

    whole : finds_nothing_at 31 o h ≡ true → is_whole_sysv (words_of (items_at o h 0)) (listed_names o (header_at o h).link) ≡ true
    unfolding is_broken_hash section_words
    whole none =
        let names = listed_names o (header_at o h).link in
        let broken = hash_passes o h hash_there none in
        let test : not (is_whole_sysv (section_words o h) names) ≡ false = sym (ap (λ (t : Bool). t && not (is_whole_sysv (section_words o h) names)) looked_at) ∙ broken in
        sym (ap (λ (l : List ℕ). is_whole_sysv l names) (lent (lend_refusal o kinds.Word h 0) (words_of (items_at o h 0)) words_lent))
        ∙ not_false (is_whole_sysv (section_words o h) names) test

    is_whole_hash : finds_nothing_at 31 o h ≡ true → IsWholeSysv o h
    is_whole_hash none = record { words = words_lent; symbols = table_lent is_hash links; whole = whole none }

  module _ (links : LinksIntact is_gnu_hash o h) where
    gnu_there : h < length o.sections
    gnu_there = is_there o h is_gnu_hash no_gnu_hash links.passes

    abbrev tests : ((header_at o h).stype == SHT_GNU_HASH) ≡ true × (not (is_compressed (header_at o h).flags)) ≡ true
    tests = both ((header_at o h).stype == SHT_GNU_HASH) (not (is_compressed (header_at o h).flags)) links.passes

    bytes_lent : lend_refusal o kinds.Bytes h 0 ≡ None
    bytes_lent = lend_passes image o is h gnu_there links.intact kinds.Bytes (gnu_kind (header_at o h) links.passes)

    gnu_looked_at : has_bytes_of_symbols o h ≡ true
    unfolding has_bytes_of_symbols
    gnu_looked_at = rw (plain is_gnu_hash links (not-true (is_compressed (header_at o h).flags) tests.1), tests.0, symbols_linked is_gnu_hash links) refl

    gnu_whole : finds_nothing_at 32 o h ≡ true → is_whole_gnu o.header.class o.header.order (bytes_of (items_at o h 0)) (listed_names o (header_at o h).link) ≡ true
    unfolding is_broken_gnu_hash data_bytes
    gnu_whole none =
        let names = listed_names o (header_at o h).link in
        let whole_by : List ℕ → Bool = λ l. is_whole_gnu o.header.class o.header.order l names in
        let broken = gnu_passes o h gnu_there none in
        let test : not (whole_by (data_bytes o h)) ≡ false = sym (ap (λ (t : Bool). t && not (whole_by (data_bytes o h))) gnu_looked_at) ∙ broken in
        sym (ap whole_by (lent (lend_refusal o kinds.Bytes h 0) (bytes_of (items_at o h 0)) bytes_lent))
        ∙ not_false (whole_by (data_bytes o h)) test

    is_whole_gnu_hash : finds_nothing_at 32 o h ≡ true → IsWholeGnu o h
    is_whole_gnu_hash none = record { bytes = bytes_lent; symbols = table_lent is_gnu_hash links; whole = gnu_whole none }

pub found_as_listed : FoundAsListed
found_as_listed = record {
  sysv = λ image o h name is links none. hash_reach.sysv o h name (is_whole_hash image o is h links none);
  gnu = λ image o h name is links none. hash_reach.gnu o h name (is_whole_gnu_hash image o is h links none);
}
