-- The notes of a section, and the texts of their lines.
use Rattle.std.proofs.Common.{◌≡◌, ◌==◌, ◌||◌, ℕ, Bool, true, false, not, List, [], ◌∷◌, Option, Some, None, refl, sym, ap, ◌∙◌}
use Rattle.std.specs.Prelude.{take_while, if◌then◌else◌}
use Rattle.std.proofs.lemmas.List.Sums.{take_while-cons}
use Rattle.elf_object.specs.Object.{Object}
use Rattle.elf_object.specs.Strings.{has_nul}
use Rattle.tool_objects.specs.gelf_view.Records.{string_front}
use Rattle.tool_objects.specs.gelf_view.declared.notes.NoteAt.{NoteAt}
use Rattle.tool_objects.specs.gelf_view.Chains.{notes, ended, broken, leading}
use Rattle.elf_types.specs.declared.errors.ElfError.{ElfError}
use Rattle.elf_types.specs.Text.{error_text}
use Rattle.tool_output.specs.Names.{Name}
use Rattle.tool_output.specs.Messages.{section_message}
use Rattle.readelf_rows.specs.Data.{readelf_refusal}
use Rattle.tool_output.specs.Reports.{no_report, shown_report, joined_reports}
use Rattle.readelf_chains.specs.Chains.{section_bytes}
use Rattle.readelf_chains.specs.Notes.{part_of, owner_of, note_line, note_text, notes_from}
use Rattle.readelf_chains.proofs.ChainLemmas.{chain_leading, chain_ended, chain_broken}

-- ---- The owner

-- a name without a NUL is all of the owner
no_nul : (name : List ℕ) → has_nul name ≡ false → take_while (λ b. not (b == 0)) name ≡ name
no_nul [] is = refl
no_nul (b ∷ name) is = take_while-cons (λ b. not (b == 0)) b name ∙ by_test (no_nul name) (b == 0) is
  where
    by_test : (has_nul name ≡ false → take_while (λ b. not (b == 0)) name ≡ name) → (t : Bool) → (t || has_nul name) ≡ false
        → (if not t then b ∷ take_while (λ b. not (b == 0)) name else []) ≡ b ∷ name
    by_test rest true is = cc
    by_test rest false is = ap (λ (l : List ℕ). b ∷ l) (rest is)

module _ (name : List ℕ) where
  pub owner_found : (owner : List ℕ) → Some owner ≡ string_front name → owner ≡ owner_of name
  unfolding string_front owner_of
  owner_found owner is = by_test (has_nul name) is
    where
      by_test : (t : Bool) → Some owner ≡ (if t then Some (take_while (λ b. not (b == 0)) name) else None) → owner ≡ take_while (λ b. not (b == 0)) name
      by_test true is = cc
      by_test false is = cc

  pub owner_all : None ≡ string_front name → name ≡ owner_of name
  unfolding string_front owner_of
  owner_all is = by_test (has_nul name) refl is
    where
      by_test : (t : Bool) → has_nul name ≡ t → ◌≡◌ {A = Option (List ℕ)} None (if t then Some (take_while (λ b. not (b == 0)) name) else None) → name ≡ take_while (λ b. not (b == 0)) name
      by_test true was is = cc
      by_test false was is = sym (no_nul name was)

-- ---- What is left of the notes

module _ (name : Name) (o : Object) (s at : ℕ) where
  pub note_left : (note : NoteAt) → notes o s 0 at ≡ leading note (notes o s 0 note.next)
      → notes_from name o s at ≡ joined_reports (shown_report (note_text (section_bytes o s) note)) (notes_from name o s note.next)
  unfolding notes_from
  note_left note is = chain_leading name s (λ note. shown_report (note_text (section_bytes o s) note)) note (notes o s 0 note.next) (notes o s 0 at) is

  pub no_note_left : notes o s 0 at ≡ ended → notes_from name o s at ≡ no_report
  unfolding notes_from
  no_note_left is = chain_ended name s (λ note. shown_report (note_text (section_bytes o s) note)) (notes o s 0 at) is

  pub note_broken : (e : ElfError) → notes o s 0 at ≡ broken e → notes_from name o s at ≡ readelf_refusal name (section_message s (error_text e))
  unfolding notes_from
  note_broken e is = chain_broken name s (λ note. shown_report (note_text (section_bytes o s) note)) e (notes o s 0 at) is

-- the line of a note by the parts of its bytes
pub note_text_is : (bytes l : List ℕ) (note : NoteAt) (part owner desc : List ℕ) → l ≡ bytes → part ≡ part_of l note.name_at note.namesz → owner ≡ owner_of part
    → desc ≡ part_of l note.desc_at note.descsz → note_text bytes note ≡ note_line note owner desc
unfolding note_text
note_text_is bytes l note part owner desc same p o d =
    sym (ap (λ (b : List ℕ). note_line note (owner_of (part_of b note.name_at note.namesz)) (part_of b note.desc_at note.descsz)) same)
    ∙ sym (ap (λ (x : List ℕ). note_line note (owner_of x) (part_of l note.desc_at note.descsz)) p)
    ∙ sym (ap (λ (x : List ℕ). note_line note x (part_of l note.desc_at note.descsz)) o)
    ∙ sym (ap (note_line note owner) d)
