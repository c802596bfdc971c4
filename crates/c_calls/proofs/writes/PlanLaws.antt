-- What an update in place over lent bytes has kept of its writes.
use Rattle.std.proofs.Common.{◌≡◌, ◌⊎◌, ◌+◌, ◌≤◌, inl, inr, ℕ, true, false, Some, Box, Result, Ok, Err, IsOk, refl, sym, ap, ◌∙◌, subst, arith}
use Rattle.std.proofs.lemmas.Bool.{cases_Bool}
use Rattle.elf_types.specs.declared.errors.ElfError.{ElfError}
use Rattle.elf_types.specs.declared.errors.ElfError.TheVariants.{Memory, Read, Write}
use Rattle.elf_object.specs.Object.{is_dirty}
use Rattle.elf_object.specs.Words.{UpdateAnswers}
use Rattle.elf_object.specs.Calls.{update_null}
use Rattle.elf_object.specs.Image.{image}
use Rattle.elf_object.specs.Changed.{changed_bytes}
use Rattle.law_object.proofs.ImageLaws.{image-clean}
use Rattle.elf_descriptor.specs.State.{State}
use Rattle.elf_descriptor.specs.Fronts.{HoldsBaseAlone}
use Rattle.elf_update_in_place.specs.Updates.{UpdatesInPlace}
use Rattle.c_handles.specs.declared.lent.loan.Loan.{Loan}
use Rattle.c_handles.specs.declared.lent.loan.Lent.{Lent}
use Rattle.c_handles.specs.declared.lent.image.LentImage.{LentImage}
use Rattle.c_handles.specs.Lent.Images.{bytes_now, write_bytes_given}
use Rattle.c_handles.specs.Lent.Writes.{with_writes}
use Rattle.c_handles.specs.contracts.lent.image.LentImageSource.TheImpl as source
use Rattle.c_handles.specs.contracts.lent.image.LentImageDevice.TheImpl as device
use Rattle.c_handles.specs.Objects.Objects.{SameLoan, IsLoanOf}
use Rattle.c_handles.proofs.objects.ImageLaws.{never_rose, same_loan}
use Rattle.c_handles.specs.declared.writes.planned.PlannedWrites.{PlannedWrites}
use Rattle.c_calls.specs.Writes.Plans.{WritesMakeImage, Plans, write_fault_as_memory, Boxes}

-- what the call says
pub record Updated (r : Result ℕ ElfError) (old new : State LentImage) : Type 0 where
  pub answer : UpdateAnswers r (update_null.answer old.o)
  pub clean : is_dirty old.o ≡ false → new ≡ old
  pub whole : is_dirty old.o ≡ false → HoldsBaseAlone source.ghosts new
  pub ends : is_dirty old.o ≡ false → IsOk r
  pub updates : is_dirty old.o ≡ true → UpdatesInPlace source.ghosts device.ghosts r old new

module _ (r : Result ℕ ElfError) (old new : State LentImage) (u : Updated r old new) where
  -- the loan stays
  pub loan_stays : SameLoan old.source.loan new.source.loan
  loan_stays =
      elim (cases_Bool (is_dirty old.o)) [
        | inl dirty ↦
            same_loan old.source new.source (u.updates dirty).uses.rest_after
        | inr clean ↦
            let same : new.source ≡ old.source =
            ap (λ (s : State LentImage). s.source) (u.clean clean) in (
              ap (λ (i : LentImage). i.loan.part) same,
              ap (λ (i : LentImage). i.loan.at) same,
              ap (λ (i : LentImage). i.loan.bytes) same,
            )
      ]

  -- no more is given than what changes
  given_most : write_bytes_given new.source ≤ write_bytes_given old.source + changed_bytes old.o
  given_most =
      elim (cases_Bool (is_dirty old.o)) [
        | inl dirty ↦ (u.updates dirty).uses.given.no_more
        | inr clean ↦
            let same : write_bytes_given new.source ≡ write_bytes_given old.source =
            ap (λ (s : State LentImage). write_bytes_given s.source) (u.clean clean) in
            omega (arith, same)
      ]

-- what goes back of a loan as it was goes back of that
pub goes_back : (loan left : Loan) (lent : Lent) → IsLoanOf left lent → SameLoan loan left
    → IsLoanOf loan lent
goes_back loan left lent is same = (is.0, is.1 ∙ same.0, is.2 ∙ same.1, is.3 ∙ same.2)

-- what is held at the end is the image
pub makes_image : (n : ℕ) (old new : State LentImage) → Updated (Ok n) old new
    → bytes_now new.source ≡ image old.o
makes_image n old new u =
    elim (cases_Bool (is_dirty old.o)) [
      | inl dirty ↦
          let held : Some (bytes_now new.source) ≡ Some (image old.o) =
          (u.updates dirty).bytes in cc
      | inr clean ↦
          let base : bytes_now new.source ≡ new.o.base = (u.whole clean).is in
          base ∙ ap (λ (s : State LentImage). s.o.base) (u.clean clean)
          ∙ sym (image-clean old.o clean)
    ]

pub makes : (n : ℕ) (old new : State LentImage) → Updated (Ok n) old new
    → WritesMakeImage old new.source.writes
makes n old new u = record {
  image = ap (with_writes new.source.writes) (sym (loan_stays (Ok n) old new u).2)
      ∙ makes_image n old new u;
  most = omega (arith, given_most (Ok n) old new u);
}

-- a refusal is the stated one, or want of memory
pub refused : (e d : ElfError) (old new : State LentImage) → Updated (Err e) old new
    → write_fault_as_memory (Err e) ≡ Err d → (d ≡ Memory) ⊎ (update_null.answer old.o ≡ Err d)
refused Memory d old new u is = inl cc
refused Read d old new u is =
    elim (cases_Bool (is_dirty old.o)) [
      | inl dirty ↦ absurd (never_rose (u.updates dirty).uses.read)
      | inr clean ↦ let no : false ≡ true = u.ends clean in cc
    ]
refused Write d old new u is = inl cc
refused e d old new u is =
    let same : e ≡ d = cc in inr (u.answer ∙ ap (λ (x : ElfError). Err x) same)

is_ok : {A : Type 0} (stated : Result A ElfError) (x : A) → stated ≡ Ok x → IsOk stated
is_ok (Ok y) x is = refl
is_ok (Err e) x is = cc

-- what is put into the box
pub planned : {A : Type 0} (r : Result ℕ ElfError) (old new : State LentImage)
    (boxed : Result (Box PlannedWrites A) ElfError) → Updated r old new
    → Boxes new.source.writes (write_fault_as_memory r) boxed → Plans old boxed
planned (Ok n) old new (Ok writes) u is = (
  is_ok (update_null.answer old.o) n u.answer,
  subst (WritesMakeImage old) (sym is.1) (makes n old new u),
)
planned (Ok n) old new (Err e) u is =
    elim is [
      | inl memory ↦ inl memory
      | inr other ↦ cc
    ]
planned (Err e) old new (Ok writes) u is = not_done e is.0
  where
    not_done : (d : ElfError) → IsOk (write_fault_as_memory (Err d)) → Plans old (Ok writes)
    not_done Write ok = cc
    not_done d ok = cc
planned (Err e) old new (Err d) u is =
    elim is [
      | inl memory ↦ inl memory
      | inr other ↦ refused e d old new u other
    ]
