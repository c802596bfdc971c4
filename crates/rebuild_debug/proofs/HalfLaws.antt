-- The debug half of an object, section after section.
use Rattle.std.proofs.Common.{◌≡◌, ◌≢◌, ◌+◌, ◌-◌, ◌≤◌, ℕ, zero, suc, Bool, true, false, not, cond, List, [], ◌∷◌, length, map, Option, None, Ok, Err, if◌then◌else◌, refl, sym, ap, ◌∙◌, arith}
use Rattle.std.specs.Prelude.{filter, sum_by}
use Rattle.std.specs.List.{range_with_len}
use Rattle.std.proofs.lemmas.Bool.{ne_eqb}
use Rattle.std.proofs.lemmas.List.Sums.{sum_by-cons}
use Rattle.elf_types.specs.Answers.{answered}
use Rattle.elf_types.specs.declared.constants.TheConstants.{SHT_NOBITS}
use Rattle.elf_types.specs.declared.records.Shdr.{Shdr}
use Rattle.elf_types.specs.declared.errors.ElfError.{ElfError}
use Rattle.elf_types.specs.declared.errors.ElfError.TheVariants.{Memory, Read, Write}
use Rattle.elf_xlate.specs.declared.content.Items.{Items}
use Rattle.elf_xlate.specs.declared.content.Items.TheVariants as items
use Rattle.elf_object.specs.Object.{Object, Section, section_at, new_section}
use Rattle.elf_object.specs.Due.{home_due, homes_due}
use Rattle.elf_object.specs.Layout.{section_numbers}
use Rattle.elf_object.specs.Sections.{header_at}
use Rattle.rebuild_model.specs.Rebuilt.{made_section}
use Rattle.rebuild_model.specs.Split.{is_loaded_from_file, debug_section, debug_sections, debug_half, debug_refusal, debug_of}
use Rattle.rebuild_object.specs.rebuild_making.Making.{sections_by}
use Rattle.rebuild_object.specs.rebuild_making.Refused.{UnreadBy}
use Rattle.rebuild_object.specs.rebuild_keep.Answers.{RebuildAnswers}
use Rattle.rebuild_debug.specs.Half.{half_header, debug_half_bytes, half_range_due, kept_in_half, half_due}

-- ---- The header of a section

abbrev typed : Bool → Shdr → Shdr
typed loaded h = if loaded then record h { stype = SHT_NOBITS } else h

typed_is : (o : Object) (s : ℕ) (h : Shdr) (b : Bool) → h ≡ (section_at o s).header
    → is_loaded_from_file h ≡ b → typed b h ≡ half_header o s
unfolding half_header
typed_is o s h b at loaded =
    ap (λ (t : Bool). typed t h) (sym loaded)
    ∙ ap (λ (x : Shdr). typed (is_loaded_from_file x) x) at

module _ (o : Object) (s : ℕ) (h : Shdr) (r : Bool) (at : h ≡ (section_at o s).header)
    (told : r ≡ is_loaded_from_file h) where
  pub header_loaded : r ≡ true → record h { stype = SHT_NOBITS } ≡ half_header o s
  header_loaded is = typed_is o s h true at (sym told ∙ is)

  pub header_same : r ≡ false → h ≡ half_header o s
  header_same is = typed_is o s h false at (sym told ∙ is)

-- ---- The sections

abbrev pub half_items : Object → ℕ → Items
half_items o s = items.Bytes (debug_half_bytes o s)

module _ (o : Object) where
  section_made : (s : ℕ) → s ≢ 0
      → made_section (half_header o s) (half_items o s) ≡ debug_section o s
  unfolding half_header debug_half_bytes debug_section
  section_made s some =
      by_test (is_loaded_from_file (header_at o s))
      ∙ sym (ap (λ (b : Bool). if b then new_section
      else (if is_loaded_from_file (header_at o s)
      then made_section (record (header_at o s) { stype = SHT_NOBITS }) (items.Bytes [])
      else made_section (header_at o s) (items.Bytes (section_at o s).raw))) (ne_eqb s 0 some))
    where
      by_test : (b : Bool)
          → made_section (if b then record (header_at o s) { stype = SHT_NOBITS } else header_at o s)
          (items.Bytes (if b then [] else (section_at o s).raw))
          ≡ (if b then made_section (record (header_at o s) { stype = SHT_NOBITS }) (items.Bytes [])
          else made_section (header_at o s) (items.Bytes (section_at o s).raw))
      by_test true = refl
      by_test false = refl

  sections_made : (a n : ℕ) → 1 ≤ a
      → sections_by (half_header o) (half_items o) (range_with_len a n)
      ≡ map (debug_section o) (range_with_len a n)
  unfolding sections_by
  sections_made a zero from = refl
  sections_made a (suc n) from =
      ap (λ (c : Section).
      c ∷ map (λ s. made_section (half_header o s) (half_items o s)) (range_with_len (a + 1) n))
      (section_made a (λ none. omega (arith, none, from)))
      ∙ ap (λ (l : List Section). debug_section o a ∷ l)
      (sections_made (a + 1) n (omega (arith, from)))

  first_made : debug_section o 0 ≡ new_section
  unfolding debug_section
  first_made = refl

  pub none_made : length o.sections ≡ 0 → debug_sections o ≡ []
  none_made none = ap (λ (n : ℕ). map (debug_section o) (range_with_len 0 n)) none

  pub some_made : (length o.sections ≡ 0 → ⊥) → debug_sections o
      ≡ new_section ∷ sections_by (half_header o) (half_items o) (section_numbers o)
  some_made some = by (length o.sections) some
    where
      by : (n : ℕ) → (n ≡ 0 → ⊥) → map (debug_section o) (range_with_len 0 n)
          ≡ new_section ∷ sections_by (half_header o) (half_items o) (range_with_len 1 (n - 1))
      by zero is = absurd (is refl)
      by (suc n) is =
          ap (λ (c : Section). c ∷ map (debug_section o) (range_with_len 1 n)) first_made
          ∙ ap (λ (l : List Section). new_section ∷ l) (sym (sections_made 1 n (omega arith)))
          ∙ ap (λ (k : ℕ).
          new_section ∷ sections_by (half_header o) (half_items o) (range_with_len 1 k))
          (let same : n ≡ suc n - 1 = omega arith in same)

  -- ---- What is read

  dues_kept : (l : List ℕ) → sum_by (half_range_due o) l
      ≡ sum_by (home_due o []) (filter (λ s. not (is_loaded_from_file (header_at o s))) l)
  dues_kept [] = refl
  dues_kept (s ∷ l) =
      sum_by-cons (half_range_due o) s l
      ∙ by_test (is_loaded_from_file (header_at o s)) (dues_kept l)
    where
      by_test : (b : Bool)
          → sum_by (half_range_due o) l
          ≡ sum_by (home_due o []) (filter (λ s. not (is_loaded_from_file (header_at o s))) l)
          → (if b then 0 else home_due o [] s) + sum_by (half_range_due o) l
          ≡ sum_by (home_due o []) (cond (not b)
          (s ∷ filter (λ s. not (is_loaded_from_file (header_at o s))) l)
          (filter (λ s. not (is_loaded_from_file (header_at o s))) l))
      by_test true later = omega (arith, later)
      by_test false later =
          ap (λ (n : ℕ). home_due o [] s + n) later
          ∙ sym (sum_by-cons (home_due o []) s
          (filter (λ s. not (is_loaded_from_file (header_at o s))) l))

  pub due_is : sum_by (half_range_due o) (section_numbers o) ≡ half_due o
  unfolding half_due kept_in_half homes_due
  due_is = dues_kept (section_numbers o)

  -- ---- The answer

  pub answer_made : (p : Object) → debug_refusal o ≡ None → p ≡ debug_half o → debug_of o ≡ Ok p
  unfolding debug_of
  answer_made p passed is =
      ap (λ (r : Option ElfError). answered r (debug_half o)) passed
      ∙ ap (λ (q : Object). Ok q) (sym is)

  pub answer_refused : (e : ElfError) → UnreadBy (debug_refusal o) e
      → RebuildAnswers (Err e) (debug_of o)
  unfolding debug_of
  answer_refused Memory by = tt
  answer_refused Read by = tt
  answer_refused Write by = by
  answer_refused e by = ap (λ (r : Option ElfError). answered r (debug_half o)) by
