-- What becomes of an object that has begun and is put into a box.
use Rattle.std.proofs.Common.{◌≡◌, ◌⊎◌, inl, List, [], ℕ, Box, Result, Ok, Err, IfOk, IfErr, IfSome, sym, ap, ◌∙◌, subst, arith}
use Rattle.elf_types.specs.declared.errors.ElfError.{ElfError}
use Rattle.elf_types.specs.declared.errors.ElfError.TheVariants.{Memory}
use Rattle.elf_types.specs.Answers.{stated_refusal}
use Rattle.elf_outside.specs.Asks.{Leaves, ReadRose}
use Rattle.elf_object.specs.Object.{Object}
use Rattle.elf_object.specs.Open.{opened}
use Rattle.elf_descriptor.specs.State.{State}
use Rattle.c_handles.specs.declared.lent.loan.Lent.{Lent}
use Rattle.c_handles.specs.declared.lent.loan.Loan.{Loan}
use Rattle.c_handles.specs.declared.lent.image.LentImage.{LentImage}
use Rattle.c_handles.specs.declared.lent.writes.KeptWrite.{KeptWrite}
use Rattle.c_handles.specs.Lent.Images.{bytes_now}
use Rattle.c_handles.specs.Lent.Writes.{with_writes, bytes_put}
use Rattle.c_handles.proofs.lent.WriteLaws.{with_no_writes, no_writes_put}
use Rattle.c_handles.specs.contracts.lent.image.LentImageSource.TheImpl.{ghosts}
use Rattle.c_handles.specs.declared.objects.opened.OpenObject.{OpenObject}
use Rattle.c_handles.specs.Objects.Objects.{OpensAsStated, IsLoanOf, IsLentAs, IsBack, SameImage}
use Rattle.c_handles.proofs.objects.ImageLaws.{same_image, begun_refused}

-- an image of a loan of what was lent, to which nothing was written
pub is_lent : (lent : Lent) (loan : Loan) (image : LentImage) → image.loan ≡ loan
    → (loan.part ≡ lent.part) × (loan.at ≡ lent.at) × (loan.bytes ≡ lent.bytes)
    → image.writes ≡ [] → image.lost ≡ 0 → IsLentAs lent image
is_lent lent loan image is lends none lost =
    let bytes : image.loan.bytes ≡ lent.bytes = ap (λ (l : Loan). l.bytes) is ∙ lends.2 in
    let fresh : bytes_now image ≡ image.loan.bytes =
    ap (λ (ws : List KeptWrite). with_writes ws image.loan.bytes) none
    ∙ with_no_writes image.loan.bytes in
    let put : bytes_put image.writes ≡ 0 =
    ap (λ (ws : List KeptWrite). bytes_put ws) none ∙ no_writes_put in (
      ap (λ (l : Loan). l.part) is ∙ lends.0,
      ap (λ (l : Loan). l.at) is ∙ lends.1,
      bytes,
      fresh ∙ bytes,
      omega (arith, lost, put),
    )

-- it still is where a call left it
pub still_lent : (lent : Lent) (old new : LentImage) → IsLentAs lent old → Leaves ghosts old new
    → IsLentAs lent new
still_lent lent old new is leaves =
    let same : SameImage old new = same_image old new leaves in (
      same.0.0 ∙ is.0,
      same.0.1 ∙ is.1,
      same.0.2 ∙ is.2,
      same.1 ∙ is.3,
      same.2 ∙ is.4,
    )

-- what goes back of a loan is what was lent
pub comes_back : (lent : Lent) (image : LentImage) (back : Lent) → IsLentAs lent image
    → IsLoanOf image.loan back → IsBack lent back
comes_back lent image back is of = (of.0, of.1 ∙ is.0, of.2 ∙ is.1, of.3 ∙ is.2)

-- a refusal at the beginning
pub refused_opens : (bytes : List ℕ) (image : LentImage) (e : ElfError)
    → bytes_now image ≡ bytes → ReadRose {T = Object} (Err e) 0 0
    → IfSome (stated_refusal e) (λ d. opened (bytes_now image) ≡ Err d)
    → (e ≡ Memory) ⊎ (opened bytes ≡ Err e)
refused_opens bytes image e same rose follows =
    begun_refused Object (opened bytes) e rose
    (subst (λ (x : List ℕ). IfSome (stated_refusal e) (λ d. opened x ≡ Err d)) same follows)

module _ {A : Type 0} (elf : State LentImage) where
  -- the box holds it, or it is handed back for want of memory
  pub boxed_opens : (r : Result (Box OpenObject A) (Lent × ElfError))
      (stated : Result Object ElfError) → stated ≡ Ok elf.o
      → IfOk r (λ object. object.value.elf ≡ elf)
      → IfErr r (λ back. IsLoanOf elf.source.loan back.0 × (back.1 ≡ Memory)) → OpensAsStated stated r
  boxed_opens (Ok object) stated opens same back =
      opens ∙ ap (λ (s : State LentImage). Ok s.o) (sym same)
  boxed_opens (Err refused) stated opens same back = inl back.1

  pub boxed_lent : (r : Result (Box OpenObject A) (Lent × ElfError)) (lent : Lent)
      → IsLentAs lent elf.source → IfOk r (λ object. object.value.elf ≡ elf)
      → IfOk r (λ object. IsLentAs lent object.value.elf.source)
  boxed_lent (Ok object) lent is same =
      subst (λ (s : State LentImage). IsLentAs lent s.source) (sym same) is
  boxed_lent (Err refused) lent is same = tt

  pub boxed_back : (r : Result (Box OpenObject A) (Lent × ElfError)) (lent : Lent)
      → IsLentAs lent elf.source
      → IfErr r (λ back. IsLoanOf elf.source.loan back.0 × (back.1 ≡ Memory))
      → IfErr r (λ back. IsBack lent back.0)
  boxed_back (Ok object) lent is back = tt
  boxed_back (Err refused) lent is back = comes_back lent elf.source refused.0 is back.0
