-- An edit that came is the stated one.
use Rattle.std.proofs.Common.{◌≡◌, inl, inr, ℕ, Result, Ok, Err, IsOk, refl, sym, ap, ◌∙◌, subst}
use Rattle.elf_types.specs.declared.errors.ElfError.{ElfError}
use Rattle.elf_types.specs.declared.errors.ElfError.TheVariants.{Memory}
use Rattle.elf_types.specs.declared.records.Ehdr.{Ehdr}
use Rattle.elf_object.specs.Words.{Edits}
use Rattle.elf_object.specs.Calls.{Call}
use Rattle.elf_descriptor.specs.State.{State}
use Rattle.elf_descriptor.specs.Edits.{stepped}
use Rattle.c_handles.specs.declared.lent.image.LentImage.{LentImage}
use Rattle.c_records.specs.declared.headers.EhdrRecord.{EhdrRecord}
use Rattle.c_records.specs.Codes.{code}
use Rattle.c_records.specs.Gives.{GivesInCForm}
use Rattle.c_records.proofs.GivesLemmas.{given, refused}
use Rattle.c_calls.specs.Editing.From.{ehdr_from_record}
use Rattle.c_calls.specs.Editing.Edited.{GivesIfRoom, Edited}

-- a refusal leaves the state, so what C sees of it stays
pub left_refused : {A C S : Type 0} (form : A → C) (stated : Result A ElfError) (seen : S → C)
    (old new : S) (e : ElfError) (number : ℕ) → Err e ≡ stated → number ≡ code e → new ≡ old
    → GivesInCForm form stated number (seen old) (seen new)
left_refused {C} form stated seen old new e number told is same =
    subst (λ (c : C). GivesInCForm form stated number (seen old) c) (sym (ap seen same))
    (refused form stated (seen old) e number told is)

-- ---- Edits that take no memory

module _ {A : Type 0} (c : Call A) (old new : State LentImage) where
  pub edit_done : (x : A) → Ok x ≡ c.answer old.o → new ≡ stepped c old → Edited c 0 old new
  edit_done x is state = given (λ _. stepped c old) (c.answer old.o) old x new is state

  pub edit_left : (e : ElfError) (number : ℕ) → Err e ≡ c.answer old.o → number ≡ code e
      → new ≡ old → Edited c number old new
  edit_left e number told is same =
      left_refused (λ _. stepped c old) (c.answer old.o) (λ s. s) old new e number told is same

-- by what was made of a record
pub edited_by : {A H : Type 0} (call : H → Call A) (made stated : H) (number : ℕ)
    (old new : State LentImage) → made ≡ stated → Edited (call made) number old new
    → Edited (call stated) number old new
edited_by {H} call made stated number old new is came =
    subst (λ (h : H). Edited (call h) number old new) is came

-- the header that was made is that of the record over the present one
pub stored_header_is : (x : EhdrRecord) (h made stated : Ehdr) (answer : Result Ehdr ElfError)
    → made ≡ ehdr_from_record x h → Ok h ≡ answer → answer ≡ Ok stated → made ≡ ehdr_from_record x stated
stored_header_is x h made stated answer is found told =
    let same : h ≡ stated = cc in is ∙ ap (ehdr_from_record x) same

-- ---- Edits that may take memory

module _ {A C : Type 0} (form : A → C) (may : Type 0) (stated : Result A ElfError) where
  -- what is stated exactly is stated
  pub exact : (number : ℕ) (old new : C) → GivesInCForm form stated number old new
      → GivesIfRoom form may stated number old new
  unfolding GivesIfRoom
  exact number old new came = inl came

  pub wanting : (e : ElfError) (number : ℕ) (old : C) → may → e ≡ Memory → number ≡ code e
      → GivesIfRoom form may stated number old old
  unfolding GivesIfRoom
  wanting e number old comes memory is =
      inr (comes, subst (λ (d : ElfError). number ≡ code d) memory is, refl)

module _ {A C S : Type 0} (form : A → C) (may : Type 0) (stated : Result A ElfError)
    (seen : S → C) (old new next : S) (may_come : IsOk stated → may) where
  pub edit_given : (x : A) (left : C) → Edits (Ok x) old new stated next
      → (new ≡ next → left ≡ form x) → GivesIfRoom form may stated 0 (seen old) left
  unfolding GivesIfRoom
  edit_given x left came made =
      inl (given form stated (seen old) x left (sym came.0) (made came.1))

  pub edit_refused : (e : ElfError) (number : ℕ) → number ≡ code e
      → Edits {A = A} (Err e) old new stated next
      → GivesIfRoom form may stated number (seen old) (seen new)
  unfolding GivesIfRoom
  edit_refused Memory number is came = inr (may_come came.0, is, ap seen came.1)
  edit_refused e number is came =
      inl (left_refused form stated seen old new e number (sym came.0) is came.1)
