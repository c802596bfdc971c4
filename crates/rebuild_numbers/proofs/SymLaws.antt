-- A symbol, and the word of one, as its section's number becomes another.
use Rattle.std.proofs.Common.{◌≡◌, ◌<◌, ℕ, Bool, true, false, Option, Some, None, sym, ap, ◌∙◌}
use Rattle.std.specs.Prelude.{nat_lt, if◌then◌else◌}
use Rattle.std.proofs.lemmas.Bool.{and_parts, ltb-true}
use Rattle.elf_types.specs.declared.records.Sym.{Sym}
use Rattle.elf_types.specs.declared.constants.TheConstants.{SHN_LORESERVE}
use Rattle.rebuild_select.specs.rebuild_model.Followed.{Renumbering, is_section_number, renumbered, followed_sym, followed_extended, followed_word, word_counts, without_section}
use Rattle.rebuild_numbers.specs.Rows.{has_number, sym_in_section, moves_in, moved_sym, moved_word, sym_with_word, word_with_sym}

-- what a new number makes of a symbol with a word, and of the word
abbrev moved_by : ℕ → Sym → Option ℕ → Sym
moved_by word x number = elim number [ None ↦ without_section x | Some new ↦ moved_sym word new x ]

abbrev word_by : ℕ → Option ℕ → ℕ
word_by word number = elim number [ None ↦ 0 | Some new ↦ moved_word word new ]

module _ (m : Renumbering) where
  -- ---- In the symbol

  pub number_parts : (x : Sym) → has_number m x ≡ true
      → (x.shndx < SHN_LORESERVE) × (is_section_number m x.shndx ≡ true)
  number_parts x has =
      let parts = and_parts (nat_lt x.shndx SHN_LORESERVE) (is_section_number m x.shndx) has in
      (ltb-true x.shndx SHN_LORESERVE parts.0, parts.1)

  pub sym_renumbered : (x made : Sym) (n : ℕ) (number : Option ℕ) → n ≡ x.shndx
      → number ≡ renumbered m n → made ≡ sym_in_section number x → made ≡ sym_in_section (renumbered m x.shndx) x
  sym_renumbered x made n number at is one =
      one
      ∙ ap (λ (o : Option ℕ). sym_in_section o x) (is ∙ ap (λ (k : ℕ). renumbered m k) at)

  pub sym_follows : (x made : Sym) → has_number m x ≡ true
      → made ≡ sym_in_section (renumbered m x.shndx) x → made ≡ followed_sym m x
  unfolding followed_sym
  sym_follows x made has one =
      one ∙ sym (ap (λ (b : Bool). if b then sym_in_section (renumbered m x.shndx) x else x) has)

  pub sym_stays : (x : Sym) → has_number m x ≡ false → x ≡ followed_sym m x
  unfolding followed_sym
  sym_stays x has = sym (ap (λ (b : Bool). if b then sym_in_section (renumbered m x.shndx) x else x) has)

  -- ---- In a word

  pub extended_follows : (word : ℕ) (x made : Sym) (number : Option ℕ)
      → number ≡ renumbered m word → made ≡ moved_by word x number
      → made ≡ followed_extended m word x
  unfolding followed_extended
  extended_follows word x made number is one = one ∙ ap (moved_by word x) is

  pub word_follows : (word made : ℕ) (number : Option ℕ)
      → number ≡ renumbered m word → made ≡ word_by word number → made ≡ followed_word m word
  unfolding followed_word
  word_follows word made number is one = one ∙ ap (word_by word) is

  pub with_word_counts : (word : ℕ) (x made : Sym) → word_counts m x word ≡ true
      → made ≡ followed_extended m word x → made ≡ sym_with_word m word x
  with_word_counts word x made counts one =
      one ∙ sym (ap (λ (b : Bool). if b then followed_extended m word x else followed_sym m x)
      counts)

  pub with_word_other : (word : ℕ) (x made : Sym) → word_counts m x word ≡ false
      → made ≡ followed_sym m x → made ≡ sym_with_word m word x
  with_word_other word x made counts one =
      one ∙ sym (ap (λ (b : Bool). if b then followed_extended m word x else followed_sym m x)
      counts)

  pub word_moves : (word : ℕ) (x : Sym) (made : ℕ) → word_counts m x word ≡ true
      → made ≡ followed_word m word → made ≡ word_with_sym m word x
  word_moves word x made counts one =
      one ∙ sym (ap (λ (b : Bool). if b then followed_word m word else word) counts)

  pub word_stays : (word : ℕ) (x : Sym) → word_counts m x word ≡ false
      → word ≡ word_with_sym m word x
  word_stays word x counts =
      sym (ap (λ (b : Bool). if b then followed_word m word else word) counts)

-- ---- A number that comes to stand in the symbol

pub sym_moves : (word new : ℕ) (x made : Sym) → moves_in word new ≡ true
    → made ≡ record x { shndx = new } → made ≡ moved_sym word new x
sym_moves word new x made moves one =
    one ∙ sym (ap (λ (b : Bool). if b then record x { shndx = new } else x) moves)

pub sym_keeps : (word new : ℕ) (x : Sym) → moves_in word new ≡ false → x ≡ moved_sym word new x
sym_keeps word new x moves =
    sym (ap (λ (b : Bool). if b then record x { shndx = new } else x) moves)
