-- What a call leaves of an image, and what a descriptor over one has begun as.
use Rattle.std.proofs.Common.{◌≡◌, ◌⊎◌, inl, inr, ℕ, true, List, [], ◌∷◌, Some, Result, Err, IfSome, refl, ap, arith}
use denote.RawPtr.{Ptr, block_ptr, null_ptr}
use Rattle.elf_types.specs.declared.errors.ElfError.{ElfError}
use Rattle.elf_types.specs.declared.errors.ElfError.TheVariants.{Memory, Read}
use Rattle.elf_types.specs.Answers.{stated_refusal}
use Rattle.elf_outside.specs.Counts.{Rose}
use Rattle.elf_outside.specs.Asks.{Leaves, ReadRose}
use Rattle.elf_object.specs.Calls.{Call}
use Rattle.elf_descriptor.specs.State.{State}
use Rattle.elf_descriptor.specs.Begun.{IsBegun, begun_state}
use Rattle.elf_descriptor.specs.Reads.{Queries}
use Rattle.c_handles.specs.Lent.Loans.{pointer_numbers}
use Rattle.c_handles.specs.declared.lent.image.LentImage.{LentImage}
use Rattle.c_handles.specs.Lent.Images.{bytes_now, write_bytes_given}
use Rattle.c_handles.specs.contracts.lent.image.LentImageSource.TheImpl.{ghosts}
use Rattle.c_handles.specs.Objects.Objects.{SameLoan, SameImage, SameObject}

-- numbers tell a place
place_told : (p q : Ptr) → pointer_numbers p ≡ pointer_numbers q → p ≡ q
place_told (block_ptr b o) (block_ptr c u) same =
    let block : b ≡ c = cc in let byte : o ≡ u = cc in cc
place_told null_ptr null_ptr same = refl
place_told (block_ptr b o) null_ptr same = cc
place_told null_ptr (block_ptr c u) same = cc

-- a call that leaves what an image keeps besides the writes leaves its loan
abbrev pub besides : LentImage → List (List ℕ)
besides image = (image.loan.part ∷ pointer_numbers image.loan.at) ∷ image.loan.bytes ∷ []

pub same_loan : (old new : LentImage) → besides new ≡ besides old → SameLoan old.loan new.loan
same_loan old new same = (cc, place_told new.loan.at old.loan.at cc, cc)

-- a call that leaves an image leaves its loan and what was written to it
pub same_image : (old new : LentImage) → Leaves ghosts old new → SameImage old new
same_image old new leaves =
    let rest : (write_bytes_given new ∷ new.write_faults ∷ []) ∷ besides new
    ≡ (write_bytes_given old ∷ old.write_faults ∷ []) ∷ besides old = leaves.same_rest in
    let held : Some (bytes_now new) ≡ Some (bytes_now old) = leaves.same_bytes in
    (same_loan old new cc, cc, cc)

pub same_object : {A T : Type 0} (c : Call A) (holding : List ℕ) (r : Result T ElfError)
    (old new : State LentImage) → Queries ghosts c holding r old new → SameObject old new
same_object c holding r old new queries = record {
  object = queries.object;
  image = same_image old.source new.source queries.reads.source.leaves;
}

-- a descriptor over an image tells its bytes
pub begun_told : (source : LentImage) (e : State LentImage) → IsBegun ghosts source e → e.told ≡ true
unfolding begun_state
begun_told source e begun = ap (λ (s : State LentImage). s.told) begun.state

-- a count that stays 0 has not risen
pub never_rose : Rose 0 0 → ⊥
never_rose rose = omega (arith, rose)

-- a refusal of what begins over an image is the stated one, or want of memory
pub begun_refused : {A : Type 0} (T : Type 0) (stated : Result A ElfError) (e : ElfError)
    → ReadRose {T = T} (Err e) 0 0 → IfSome (stated_refusal e) (λ d. stated ≡ Err d)
    → (e ≡ Memory) ⊎ (stated ≡ Err e)
begun_refused T stated Memory rose follows = inl refl
begun_refused T stated Read rose follows = absurd (never_rose rose)
begun_refused T stated e rose follows = inr follows
