-- The headers of the sections of an object, and the letters of places by them.
use Rattle.std.proofs.Common.{◌≡◌, ℕ, Bool, true, false, List, length, map, Option, Some, None, Result, Ok, Err, refl, sym, ap, ◌∙◌}
use Rattle.std.specs.Prelude.{slice_get, if◌then◌else◌}
use Rattle.std.specs.Option.{option_map}
use Rattle.std.specs.Str.{byte}
use Rattle.std.proofs.lemmas.Bool.{lt-ltb, le-ltb, lt-leb, le-leb}
use Rattle.std.proofs.lemmas.Option.{slice_get-map, slice_get_within, get_or_from_slice_get}
use Rattle.elf_types.specs.declared.errors.ElfError.{ElfError}
use Rattle.elf_types.specs.declared.records.Class.{Class}
use Rattle.elf_types.specs.declared.records.Shdr.{Shdr}
use Rattle.elf_types.specs.Answers.{answered, refused_if}
use Rattle.elf_types.specs.declared.errors.ElfError.TheVariants.{NoSection}
use Rattle.elf_object.specs.Object.{Object, Section, section_at, absent_section}
use Rattle.elf_object.specs.Calls.{shdr_answer}
use Rattle.tool_objects.specs.gelf_view.declared.symbols.SymPlace.TheVariants as places
use Rattle.tool_objects.proofs.at_hand.HeldItems.{all_before}
use Rattle.nm_tool.specs.Letters.{section_letter, place_letter, HasHeaders}

abbrev header_of : Section → Shdr
header_of c = c.header

some_is : {X : Type 0} {x y : X} → Some x ≡ Some y → x ≡ y
some_is h = cc

-- ---- By the descriptor

module _ (o : Object) (n : ℕ) where
  abbrev told_of : Option Section → Result Shdr ElfError
  told_of None = Err (NoSection n (length o.sections))
  told_of (Some c) = Ok c.header

  abbrev answer_by : Bool → Section → Result Shdr ElfError
  answer_by past c = answered (refused_if past (NoSection n (length o.sections))) c.header

  -- what it answers of the header, by what stands there
  told_by : (g : Option Section) → slice_get o.sections n ≡ g → shdr_answer o n ≡ told_of g
  unfolding shdr_answer section_at
  told_by None is =
      ap (λ (b : Bool). answer_by b (section_at o n))
      (le-leb (length o.sections) n (all_before o.sections n is))
  told_by (Some c) is =
      ap (λ (b : Bool). answer_by b (section_at o n))
      (lt-leb (length o.sections) n (slice_get_within o.sections n c is))
      ∙ ap (answer_by false) (get_or_from_slice_get o.sections n c absent_section is)

  abbrev header_at : Option Shdr
  header_at = slice_get (map header_of o.sections) n

  pub header_told : (h : Shdr) → shdr_answer o n ≡ Ok h → Some h ≡ header_at
  header_told h answer = by_section (slice_get o.sections n) refl
    where
      by_section : (g : Option Section) → slice_get o.sections n ≡ g → Some h ≡ header_at
      by_section None is = let never = sym answer ∙ told_by None is in cc
      by_section (Some c) is =
          let same : Ok h ≡ Ok c.header = sym answer ∙ told_by (Some c) is in
          let one : h ≡ c.header = cc in
          ap Some one
          ∙ sym (slice_get-map header_of o.sections n ∙ ap (option_map header_of) is)

  pub header_untold : (e : ElfError) → shdr_answer o n ≡ Err e → None ≡ header_at
  header_untold e answer = by_section (slice_get o.sections n) refl
    where
      by_section : (g : Option Section) → slice_get o.sections n ≡ g → None ≡ header_at
      by_section None is =
          sym (slice_get-map header_of o.sections n ∙ ap (option_map header_of) is)
      by_section (Some c) is = let never = sym answer ∙ told_by (Some c) is in cc

-- ---- Letters

module _ (o : Object) (class : Class) (headers : List Shdr) (has : HasHeaders o class headers)
    (n : ℕ) where
  mapped : option_map header_of (slice_get o.sections n) ≡ slice_get headers n
  mapped =
      sym (slice_get-map header_of o.sections n)
      ∙ ap (λ (l : List Shdr). slice_get l n) has.headers

  abbrev letter_if : Bool → Section → ℕ
  letter_if there c = if there then section_letter c.header else byte "?"

  letter_of : (g : Option Section) → slice_get o.sections n ≡ g
      → place_letter o (Some (places.Section n))
      ≡ elim g [ None ↦ byte "?" | Some c ↦ section_letter c.header ]
  unfolding place_letter section_at
  letter_of None is =
      ap (λ (b : Bool). letter_if b (section_at o n))
      (le-ltb n (length o.sections) (all_before o.sections n is))
  letter_of (Some c) is =
      ap (λ (b : Bool). letter_if b (section_at o n))
      (lt-ltb n (length o.sections) (slice_get_within o.sections n c is))
      ∙ ap (letter_if true) (get_or_from_slice_get o.sections n c absent_section is)

  pub letter_there : (h : Shdr) → Some h ≡ slice_get headers n
      → section_letter h ≡ place_letter o (Some (places.Section n))
  letter_there h there = by_section (slice_get o.sections n) refl (mapped ∙ sym there)
    where
      by_section : (g : Option Section) → slice_get o.sections n ≡ g
          → option_map header_of g ≡ Some h
          → section_letter h ≡ place_letter o (Some (places.Section n))
      by_section None is same = cc
      by_section (Some c) is same =
          ap section_letter (sym (some_is same)) ∙ sym (letter_of (Some c) is)

  pub letter_missing : None ≡ slice_get headers n
      → byte "?" ≡ place_letter o (Some (places.Section n))
  letter_missing none = by_section (slice_get o.sections n) refl (mapped ∙ sym none)
    where
      by_section : (g : Option Section) → slice_get o.sections n ≡ g
          → option_map header_of g ≡ None
          → byte "?" ≡ place_letter o (Some (places.Section n))
      by_section None is same = sym (letter_of None is)
      by_section (Some c) is same = cc
