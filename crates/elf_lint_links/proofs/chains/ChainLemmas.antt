-- What is left of a chain, and where it goes bad.
use Rattle.std.proofs.Common.{◌≡◌, ◌==◌, ℕ, Bool, true, false, List, ◌∷◌, length, map, Option, Some, None, Ok, Err, refl, sym, ap, ◌∙◌}
use Rattle.std.specs.Prelude.{◌&&◌, is_some, if◌then◌else◌}
use Rattle.std.specs.Option.{option_or}
use Rattle.elf_types.specs.declared.records.Kind.TheVariants as kinds
use Rattle.elf_types.specs.declared.constants.TheConstants.{SHT_NOTE, SHT_GNU_VERDEF, SHT_GNU_VERNEED}
use Rattle.elf_types.specs.declared.errors.ElfError.{ElfError}
use Rattle.elf_types.specs.Answers.{answered, first_refusal, ◌>>=◌}
use Rattle.elf_lint_findings.specs.elf_object.Object.{Object}
use Rattle.elf_lint_findings.specs.elf_object.Answers.{bytes_of, items_at, lend_refusal}
use Rattle.elf_lint_findings.specs.gelf_view.Calls.{first_version_place, first_entry_answer}
use Rattle.elf_lint_findings.specs.gelf_view.Chains.{Chain, ended, broken, leading, entry_then, next_place, notes, verdefs, verneeds}
use Rattle.elf_lint_findings.specs.elf_object.Sections.{header_at}
use Rattle.elf_lint_findings.specs.Looking.{is_plain, if_lent, data_bytes}
use Rattle.elf_lint_links.specs.Chains.Chains.{bad_place, entries_bad, section_bad, is_plain_of, note_bad, verdef_names_bad, verneed_names_bad, version_bad}

-- ---- A chain

abbrev pub chain_bad : {A : Type 0} → Chain A → Option ℕ
chain_bad chain = bad_place chain.bad

-- ---- The entries of a section

module _ {A : Type 0} (bad : (ℕ × A) → Option ℕ) where
  by_first : (p : Option ℕ) (later : List (Option ℕ)) (end : Option ℕ) → option_or (first_refusal (p ∷ later)) end ≡ option_or p (option_or (first_refusal later) end)
  by_first None later end = refl
  by_first (Some n) later end = refl

  -- the names of an entry come before the next one
  pub entry_first : (x : ℕ × A) (rest chain : Chain (ℕ × A)) → chain ≡ leading x rest → entries_bad bad chain ≡ option_or (bad x) (entries_bad bad rest)
  entry_first x rest chain is = ap (entries_bad bad) is ∙ by_first (bad x) (map bad rest.found) (bad_place rest.bad)

  -- the chain behind an entry
  abbrev behind : (ℕ → Chain (ℕ × A)) → Option ℕ → Chain (ℕ × A)
  behind from next = elim next [ None ↦ ended | Some place ↦ from place ]

  some_first : (v p q : Option ℕ) → is_some v ≡ true → v ≡ p → v ≡ option_or p q
  some_first None p q some is = cc
  some_first (Some n) p q some is = ap (λ (r : Option ℕ). option_or r q) is

  none_first : (v p q : Option ℕ) → is_some v ≡ false → v ≡ p → option_or p q ≡ q
  none_first None p q none is = ap (λ (r : Option ℕ). option_or r q) (sym is)
  none_first (Some n) p q none is = cc

  module _ (at n : ℕ) (x : A) (from : ℕ → Chain (ℕ × A)) (chain : Chain (ℕ × A)) (is : chain ≡ entry_then at x n from) (v : Option ℕ) (known : v ≡ bad (at, x)) where
    pub names_go_bad : is_some v ≡ true → v ≡ entries_bad bad chain
    names_go_bad some =
        some_first v (bad (at, x)) (entries_bad bad (behind from (next_place at n))) some known ∙ sym (entry_first (at, x) (behind from (next_place at n)) chain is)

    pub entry_last : is_some v ≡ false → None ≡ next_place at n → entries_bad bad chain ≡ None
    entry_last none last =
        entry_first (at, x) (behind from (next_place at n)) chain is
        ∙ none_first v (bad (at, x)) (entries_bad bad (behind from (next_place at n))) none known
        ∙ ap (λ (p : Option ℕ). entries_bad bad (behind from p)) (sym last)

    pub entry_goes : (place : ℕ) → is_some v ≡ false → Some place ≡ next_place at n → entries_bad bad chain ≡ entries_bad bad (from place)
    entry_goes place none next =
        entry_first (at, x) (behind from (next_place at n)) chain is
        ∙ none_first v (bad (at, x)) (entries_bad bad (behind from (next_place at n))) none known
        ∙ ap (λ (p : Option ℕ). entries_bad bad (behind from p)) (sym next)

  pub entries_broken : (e : ElfError) (chain : Chain (ℕ × A)) → chain ≡ broken e → entries_bad bad chain ≡ bad_place (Some e)
  entries_broken e chain is = ap (entries_bad bad) is

-- ---- The first entry

module _ (o : Object) (s : ℕ) where
  by_refusal : (r : Option ElfError) (l : List ℕ) (first : Option ℕ) → (answered r l >>= λ bytes. Ok (first_version_place (length bytes))) ≡ Ok first
      → first ≡ first_version_place (length (if_lent r l))
  by_refusal None l first is = cc
  by_refusal (Some e) l first is = cc

  pub first_there : (first : Option ℕ) → first_entry_answer o s 0 ≡ Ok first → first ≡ first_version_place (length (data_bytes o s))
  unfolding first_entry_answer data_bytes
  first_there first is = by_refusal (lend_refusal o kinds.Bytes s 0) (bytes_of (items_at o s 0)) first is

  by_refused : (r : Option ElfError) (l : List ℕ) (e : ElfError) → (answered r l >>= λ bytes. Ok (first_version_place (length bytes))) ≡ Err e
      → first_version_place (length (if_lent r l)) ≡ None
  by_refused None l e is = cc
  by_refused (Some d) l e is = refl

  pub first_refused : (e : ElfError) → first_entry_answer o s 0 ≡ Err e → first_version_place (length (data_bytes o s)) ≡ None
  unfolding first_entry_answer data_bytes
  first_refused e is = by_refused (lend_refusal o kinds.Bytes s 0) (bytes_of (items_at o s 0)) e is

-- ---- The sections that the rules look at

module _ (o : Object) (s : ℕ) where
  abbrev plain_of : ℕ → Bool
  plain_of stype = is_plain o s && (header_at o s).stype == stype

  pub note_looked : (is_plain o s && (header_at o s).stype == SHT_NOTE) ≡ true → note_bad o s ≡ bad_place (notes o s 0 0).bad
  unfolding note_bad is_plain_of
  note_looked is = ap (λ (t : Bool). if t then bad_place (notes o s 0 0).bad else None) is

  pub note_passed : (is_plain o s && (header_at o s).stype == SHT_NOTE) ≡ false → note_bad o s ≡ None
  unfolding note_bad is_plain_of
  note_passed is = ap (λ (t : Bool). if t then bad_place (notes o s 0 0).bad else None) is

  abbrev definitions : Option ℕ
  definitions = section_bad (verdef_names_bad o s) (verdefs o s 0) (data_bytes o s)

  abbrev needs : Option ℕ
  needs = section_bad (verneed_names_bad o s) (verneeds o s 0) (data_bytes o s)

  by_types : (t u : Bool) → plain_of SHT_GNU_VERDEF ≡ t → plain_of SHT_GNU_VERNEED ≡ u → version_bad o s ≡ (if t then definitions else (if u then needs else None))
  unfolding version_bad is_plain_of
  by_types t u first second =
      ap (λ (b : Bool). if b then definitions else (if plain_of SHT_GNU_VERNEED then needs else None)) first
      ∙ ap (λ (b : Bool). if t then definitions else (if b then needs else None)) second

  pub definitions_looked : plain_of SHT_GNU_VERDEF ≡ true → version_bad o s ≡ section_bad (verdef_names_bad o s) (verdefs o s 0) (data_bytes o s)
  definitions_looked is = by_types true (plain_of SHT_GNU_VERNEED) is refl

  pub needs_looked : plain_of SHT_GNU_VERDEF ≡ false → plain_of SHT_GNU_VERNEED ≡ true → version_bad o s ≡ section_bad (verneed_names_bad o s) (verneeds o s 0) (data_bytes o s)
  needs_looked not is = by_types false true not is

  pub versions_passed : plain_of SHT_GNU_VERDEF ≡ false → plain_of SHT_GNU_VERNEED ≡ false → version_bad o s ≡ None
  versions_passed not nor = by_types false false not nor
