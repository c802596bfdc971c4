-- What the counts of the headers tell that C hands over.
use Rattle.std.proofs.Common.{◌≡◌, inl, inr, ℕ, ◌≤◌, Bool, true, false, not, ◌&&◌, ◌||◌, List, length, Option, Some, None, Result, Ok, Err, refl, sym, ap, ◌∙◌, subst}
use Rattle.std.specs.Prelude.{map, ◌==◌, nat_lt, nat_le}
use Rattle.std.specs.List.{position}
use Rattle.std.specs.Option.{option_map}
use Rattle.std.proofs.lemmas.Bool.{lt-ltb, ltb-false}
use Rattle.std.proofs.lemmas.List.{length-map}
use Rattle.elf_types.specs.Answers.{refused_if, answered}
use Rattle.elf_types.specs.declared.constants.TheConstants.{MAX_SECTIONS, MAX_SEGMENTS, PN_XNUM, SHN_LORESERVE}
use Rattle.elf_types.specs.declared.errors.ElfError.{ElfError}
use Rattle.elf_types.specs.declared.errors.ElfError.TheVariants.{TooMany, Unfit}
use Rattle.elf_types.specs.declared.records.Class.{Class}
use Rattle.elf_types.specs.declared.records.Part.TheVariants as part
use Rattle.elf_types.specs.declared.records.Phdr.{Phdr}
use Rattle.elf_types.specs.declared.records.Shdr.{Shdr}
use Rattle.elf_xlate.specs.Headers.{phdr_fits}
use Rattle.c_records.specs.declared.headers.PhdrRecord.{PhdrRecord}
use Rattle.c_records.specs.declared.headers.ShdrRecord.{ShdrRecord}
use Rattle.c_calls.specs.Editing.From.{phdr_from_record, shdr_from_record}
use Rattle.c_calls.specs.Layout.Listed.{first_occupies, counts_refusal, segments_refusal}
use Rattle.c_calls.specs.Layout.Plans.{AreTooMany}

abbrev Answered : Result (Unit {0}) ElfError → Option ElfError → Type 0
Answered result r = result ≡ answered r tt

-- ---- Too many

neither : (a b : Bool) (e : ElfError) → refused_if (a || b) e ≡ None → (a ≡ false) × (b ≡ false)
neither false false e is = (refl, refl)
neither false true e is = cc
neither true b e is = cc

module _ (phdrs : List PhdrRecord) (shdrs : List ShdrRecord) where
  abbrev Untold : Bool
  Untold =
      (nat_le PN_XNUM (length phdrs) && length shdrs == 0)
      || (nat_le SHN_LORESERVE (length shdrs) && first_occupies shdrs)

  within : counts_refusal phdrs shdrs ≡ None
      → (nat_lt MAX_SEGMENTS (length phdrs) || nat_lt MAX_SECTIONS (length shdrs)) ≡ false
  unfolding counts_refusal
  within none =
      (neither (nat_lt MAX_SEGMENTS (length phdrs) || nat_lt MAX_SECTIONS (length shdrs)) Untold
      TooMany none).0

  both : (a b : Bool) → (a || b) ≡ false → (a ≡ false) × (b ≡ false)
  both false false is = (refl, refl)
  both false true is = cc
  both true b is = cc

  pub few_segments : counts_refusal phdrs shdrs ≡ None → length phdrs ≤ MAX_SEGMENTS
  few_segments none =
      ltb-false MAX_SEGMENTS (length phdrs)
      (both (nat_lt MAX_SEGMENTS (length phdrs)) (nat_lt MAX_SECTIONS (length shdrs))
      (within none)).0

  pub few_sections : counts_refusal phdrs shdrs ≡ None → length shdrs ≤ MAX_SECTIONS
  few_sections none =
      ltb-false MAX_SECTIONS (length shdrs)
      (both (nat_lt MAX_SEGMENTS (length phdrs)) (nat_lt MAX_SECTIONS (length shdrs))
      (within none)).1

  pub few_listed : (headers : List Shdr) → headers ≡ map shdr_from_record shdrs
      → counts_refusal phdrs shdrs ≡ None → length headers ≤ MAX_SECTIONS
  few_listed headers are none =
      let count : length headers ≡ length shdrs =
      ap (λ (l : List Shdr). length l) are ∙ length-map shdrs shdr_from_record in
      subst (λ (n : ℕ). n ≤ MAX_SECTIONS) (sym count) (few_sections none)

  or_second : (a : Bool) → (a || true) ≡ true
  or_second true = refl
  or_second false = refl

  some_many : AreTooMany phdrs shdrs
      → (nat_lt MAX_SEGMENTS (length phdrs) || nat_lt MAX_SECTIONS (length shdrs)) ≡ true
  some_many (inl many) =
      ap (λ (b : Bool). b || nat_lt MAX_SECTIONS (length shdrs))
      (lt-ltb MAX_SEGMENTS (length phdrs) many)
  some_many (inr many) =
      ap (λ (b : Bool). nat_lt MAX_SEGMENTS (length phdrs) || b)
      (lt-ltb MAX_SECTIONS (length shdrs) many)
      ∙ or_second (nat_lt MAX_SEGMENTS (length phdrs))

  pub many_refused : AreTooMany phdrs shdrs → counts_refusal phdrs shdrs ≡ Some TooMany
  unfolding counts_refusal
  many_refused many = ap (λ (b : Bool). refused_if (b || Untold) TooMany) (some_many many)

  -- so the call that found no such refusal has not so many
  pub not_many : counts_refusal phdrs shdrs ≡ None → AreTooMany phdrs shdrs → ⊥
  not_many none many =
      let clash : ◌≡◌ {A = Option ElfError} None (Some TooMany) = sym none ∙ many_refused many in cc

  pub is_many : (e : ElfError) → Answered (Err e) (counts_refusal phdrs shdrs)
      → AreTooMany phdrs shdrs → e ≡ TooMany
  is_many e told many =
      let same : Answered (Err e) (Some TooMany) =
      told ∙ ap (λ (r : Option ElfError). answered r tt) (many_refused many) in
      cc

-- ---- Program headers

module _ (class : Class) (phdrs : List PhdrRecord) where
  abbrev unfit : PhdrRecord → Bool
  unfit p = not (phdr_fits class (phdr_from_record p))

  pub segments_stop : (i : ℕ) → position unfit phdrs ≡ Some i
      → Answered (Err (Unfit part.Segments i)) (segments_refusal class phdrs)
  unfolding segments_refusal
  segments_stop i is =
      sym (ap (λ (r : Option ℕ). answered (option_map (Unfit part.Segments) r) tt) is)

  pub segments_pass : position unfit phdrs ≡ None
      → Answered (Ok tt) (segments_refusal class phdrs)
  unfolding segments_refusal
  segments_pass is =
      sym (ap (λ (r : Option ℕ). answered (option_map (Unfit part.Segments) r) tt) is)

-- what was found of the header of a record
pub unfit_is : (class : Class) (r : PhdrRecord) (h : Phdr) (found b : Bool)
    → h ≡ phdr_from_record r → found ≡ phdr_fits class h → found ≡ b
    → not (phdr_fits class (phdr_from_record r)) ≡ not b
unfit_is class r h found b same told is =
    ap (λ (x : Phdr). not (phdr_fits class x)) (sym same) ∙ ap not (sym told ∙ is)
