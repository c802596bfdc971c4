-- What becomes of an archive that has begun and is put into a box.
use Rattle.std.proofs.Common.{◌≡◌, ◌⊎◌, inl, List, ℕ, Box, Result, Ok, Err, IfOk, IfErr, IfSome, sym, ap, ◌∙◌, subst}
use Rattle.elf_types.specs.declared.errors.ElfError.{ElfError}
use Rattle.elf_types.specs.declared.errors.ElfError.TheVariants.{Memory}
use Rattle.elf_types.specs.Answers.{stated_refusal}
use Rattle.elf_outside.specs.Asks.{ReadRose}
use Rattle.ar_members.specs.Archives.{Walk, Archive, begun_walk}
use Rattle.c_handles.specs.declared.lent.loan.Lent.{Lent}
use Rattle.c_handles.specs.declared.lent.image.LentImage.{LentImage}
use Rattle.c_handles.specs.Lent.Images.{bytes_now}
use Rattle.c_handles.specs.Objects.Objects.{IsLoanOf, IsLentAs, IsBack}
use Rattle.c_handles.proofs.objects.ImageLaws.{begun_refused}
use Rattle.c_handles.proofs.objects.Openings.{comes_back}
use Rattle.c_handles.specs.declared.archives.opened.OpenArchive.{OpenArchive}
use Rattle.c_handles.specs.Archives.Opening.{OpensArchive}

-- a refusal at the beginning
pub refused_opens : (T : Type 0) (bytes : List ℕ) (image : LentImage) (e : ElfError)
    → bytes_now image ≡ bytes → ReadRose {T = T} (Err e) 0 0
    → IfSome (stated_refusal e) (λ d. begun_walk (bytes_now image) ≡ Err d)
    → (e ≡ Memory) ⊎ (begun_walk bytes ≡ Err e)
refused_opens T bytes image e same rose follows =
    begun_refused T (begun_walk bytes) e rose
    (subst (λ (x : List ℕ). IfSome (stated_refusal e) (λ d. begun_walk x ≡ Err d)) same follows)

module _ {A : Type 0} (ar : Archive LentImage) where
  -- the box holds it, or it is handed back for want of memory
  pub boxed_opens : (r : Result (Box OpenArchive A) (Lent × ElfError))
      (stated : Result Walk ElfError) → stated ≡ Ok ar.walk
      → IfOk r (λ archive. archive.value.ar ≡ ar)
      → IfErr r (λ back. IsLoanOf ar.source.loan back.0 × (back.1 ≡ Memory))
      → OpensArchive stated r
  boxed_opens (Ok archive) stated opens same back =
      opens ∙ ap (λ (a : Archive LentImage). Ok a.walk) (sym same)
  boxed_opens (Err refused) stated opens same back = inl back.1

  pub boxed_lent : (r : Result (Box OpenArchive A) (Lent × ElfError)) (lent : Lent)
      → IsLentAs lent ar.source → IfOk r (λ archive. archive.value.ar ≡ ar)
      → IfOk r (λ archive. IsLentAs lent archive.value.ar.source)
  boxed_lent (Ok archive) lent is same =
      subst (λ (a : Archive LentImage). IsLentAs lent a.source) (sym same) is
  boxed_lent (Err refused) lent is same = tt

  pub boxed_back : (r : Result (Box OpenArchive A) (Lent × ElfError)) (lent : Lent)
      → IsLentAs lent ar.source
      → IfErr r (λ back. IsLoanOf ar.source.loan back.0 × (back.1 ≡ Memory))
      → IfErr r (λ back. IsBack lent back.0)
  boxed_back (Ok archive) lent is back = tt
  boxed_back (Err refused) lent is back = comes_back lent ar.source refused.0 is back.0
