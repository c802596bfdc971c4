-- The self test's object (`generated`), and with its symbols' new values.
use Rattle.std.proofs.Common.{◌≡◌, ℕ, ◌+◌, ◌<◌, false, List, [], ◌∷◌, length, get_or, set, Option, Some, None, Ok, refl, sym, ap, ◌∙◌, arith}
use Rattle.std.specs.Prelude.{map, codes, nat_le}
use Rattle.std.specs.List.{range_with_len}
use Rattle.std.proofs.lemmas.Bool.{lt-leb}
use Rattle.elf_types.specs.declared.records.Kind.TheVariants as kinds
use Rattle.elf_types.specs.declared.records.Sym.{Sym}
use Rattle.elf_xlate.specs.declared.content.Items.TheVariants as items
use Rattle.elf_types.specs.Answers.{err_of}
use Rattle.elf_types.specs.declared.errors.ElfError.{ElfError}
use Rattle.elf_xlate.specs.Translation.{items_kind}
use Rattle.elfkit_outcomes.specs.elf_object.Object.{Object, Section, Piece, section_at, piece_at, absent_section, new_section, home_piece}
use Rattle.elfkit_outcomes.specs.elf_object.Answers.{content, or_empty, items_at, syms_of, kind_at, piece_count, lend_refusal, no_content}
use Rattle.elfkit_outcomes.specs.elf_object.Steps.{with_ehdr, with_section, with_piece_at, with_own, own_piece}
use Rattle.elfkit_outcomes.specs.elf_object.Calls.{step}
use Rattle.elfkit_outcomes.specs.elf_object.Runs.{addall, added, more_sym}
use Rattle.elfkit_outcomes.proofs.elf_object.PassedLaws.{step_ok}
use Rattle.elfkit_outcomes.specs.rebuild_model.Rebuilt.{made_section}
use Rattle.elfkit_outcomes.specs.rebuild_model.Generated.{zero_sym, generated_sym, generated_data, generated_symtab, generated_strtab, generated_symbol_names, generated_section_names, generated_sections, generated, generated_and_shifted}
use Rattle.law_files.proofs.commands.RowLemmas.{rows, length-rows, last_at, set_last}

-- ---- The sections

abbrev pub strtab : ℕ → Section
strtab n = generated_strtab n (codes ".strtab") (generated_symbol_names n)

abbrev pub shstrtab : ℕ → Section
shstrtab n = generated_strtab n (codes ".shstrtab") (generated_section_names n)

-- with this section of symbols
abbrev pub sections_with : ℕ → Section → List Section
sections_with n symtab = rows new_section (generated_data n) n symtab (strtab n) (shstrtab n)

abbrev pub generated_with : ℕ → Section → Object
generated_with n symtab = record (generated n) { sections = sections_with n symtab }

pub generated_is : (n : ℕ) → generated n ≡ generated_with n (generated_symtab n)
unfolding generated generated_sections with_ehdr
generated_is n = refl

-- ---- The symbols

abbrev pub generated_symbols : ℕ → List Sym
generated_symbols n = zero_sym ∷ map (generated_sym n) (range_with_len 1 n)

abbrev pub shifted_symbols : ℕ → List Sym
shifted_symbols n = map (more_sym n) (generated_symbols n)

-- the section of symbols with these
abbrev pub symtab_with : ℕ → List Sym → Section
symtab_with n syms = record (generated_symtab n) { pieces = own_piece (items.Sym syms) 1 ∷ [] }

pub symtab_is : (n : ℕ) → generated_symtab n ≡ symtab_with n (generated_symbols n)
unfolding generated_symtab made_section
symtab_is n = refl

abbrev pub shifted_object : ℕ → Object
shifted_object n = generated_with n (symtab_with n (shifted_symbols n))

-- ---- The addition

-- a section whose one piece has these symbols
abbrev holding : Section → List Sym → Section
holding c syms = record c { pieces = own_piece (items.Sym syms) 1 ∷ [] }

module _ (o : Object) (s : ℕ) (c : Section) (syms : List Sym) (at : section_at o s ≡ holding c syms) (below : s < length o.sections) where
  piece_is : piece_at o s 0 ≡ own_piece (items.Sym syms) 1
  unfolding piece_at
  piece_is = ap (λ (x : Section). get_or x.pieces 0 home_piece) at

  kind_is : kind_at o s 0 ≡ kinds.Sym
  unfolding kind_at
  kind_is = ap (λ (p : Piece). elim (p.own) [ None ↦ (section_at o s).home.kind | Some l ↦ items_kind l ]) piece_is

  pub items_are : items_at o s 0 ≡ items.Sym syms
  unfolding items_at
  items_are = ap (λ (p : Piece). elim (p.own) [ None ↦ or_empty (content o s) | Some l ↦ l ]) piece_is

  held_passes : no_content o s 0 ≡ None
  unfolding no_content
  held_passes = ap {B = Option ElfError} (λ (p : Piece). elim (p.own) [ None ↦ err_of (content o s) | Some l ↦ None ]) piece_is

  lend_passes : lend_refusal o kinds.Sym s 0 ≡ None
  unfolding lend_refusal piece_count
  lend_passes =
      let inside : nat_le (length o.sections) s ≡ false = lt-leb (length o.sections) s below in
      let one : length (section_at o s).pieces ≡ 1 = ap (λ (x : Section). length x.pieces) at in
      rw (inside, one, kind_is, held_passes) refl

  adds : (n : ℕ) → (addall s 0 n).answer o ≡ Ok (length syms)
  adds n = rw (kind_is, lend_passes, items_are) refl

  -- what a lend leaves, with a number added to each of the symbols that it lent
  lent_is : (n : ℕ) → step (addall s 0 n) o
      ≡ with_own o s 0 (items.Sym (map (more_sym n) (syms_of (items_at o s 0))))
  unfolding added
  lent_is n = step_ok (addall s 0 n) o (length syms) (adds n) ∙ rw (kind_is, items_are) refl

  pub added_to : (n : ℕ) → step (addall s 0 n) o ≡ with_section o s (holding c (map (more_sym n) syms))
  unfolding with_own with_piece_at added
  added_to n = step_ok (addall s 0 n) o (length syms) (adds n) ∙ rw (kind_is, items_are, piece_is, at) refl

symtab_at : (n : ℕ) → section_at (generated n) (n + 1) ≡ symtab_with n (generated_symbols n)
unfolding section_at
symtab_at n =
    ap (λ (o : Object). get_or o.sections (n + 1) absent_section) (generated_is n)
    ∙ last_at new_section (generated_data n) n 0 (n + 1) (generated_symtab n) (strtab n) (shstrtab n) absent_section (omega arith)
    ∙ symtab_is n

length-generated : (n : ℕ) → length (generated n).sections ≡ n + 4
length-generated n =
    ap (λ (o : Object). length o.sections) (generated_is n) ∙ length-rows new_section (generated_data n) n (generated_symtab n) (strtab n) (shstrtab n)

pub shifted_is : (n : ℕ) → generated_and_shifted n ≡ shifted_object n
unfolding generated_and_shifted with_section
shifted_is n =
    let count = length-generated n in
    added_to (generated n) (n + 1) (generated_symtab n) (generated_symbols n) (symtab_at n) (omega arith) n
    ∙ ap (λ (o : Object). record o { sections = set o.sections (n + 1) (symtab_with n (shifted_symbols n)) }) (generated_is n)
    ∙ ap (λ (l : List Section). record (generated n) { sections = l }) (set_last new_section (generated_data n) n (generated_symtab n) (strtab n) (shstrtab n) (symtab_with n (shifted_symbols n)))

-- ---- By a lend of the symbols

pub lends_symbols : (n : ℕ) → lend_refusal (generated n) kinds.Sym (n + 1) 0 ≡ None
lends_symbols n =
    let count = length-generated n in
    lend_passes (generated n) (n + 1) (generated_symtab n) (generated_symbols n) (symtab_at n) (omega arith)

pub shifted_by : (n : ℕ) (left : List Sym)
    → left ≡ map (more_sym n) (syms_of (items_at (generated n) (n + 1) 0))
    → with_own (generated n) (n + 1) 0 (items.Sym left) ≡ generated_and_shifted n
unfolding generated_and_shifted
shifted_by n left is =
    let count = length-generated n in
    ap (λ (l : List Sym). with_own (generated n) (n + 1) 0 (items.Sym l)) is
    ∙ sym
    (lent_is (generated n) (n + 1) (generated_symtab n) (generated_symbols n) (symtab_at n) (omega arith) n)
