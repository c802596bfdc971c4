-- An object that is open over lent bytes: how it begins, and what stays of it.
use Rattle.std.specs.Prelude.{◌≡◌, ◌⊎◌, true, Box, Result, Ok, Err}
use Rattle.elf_types.specs.declared.errors.ElfError.{ElfError}
use Rattle.elf_types.specs.declared.errors.ElfError.TheVariants.{Memory}
use Rattle.elf_object.specs.Object.{Object}
use Rattle.elf_descriptor.specs.State.{State}
use Rattle.c_handles.specs.declared.lent.loan.Lent.{Lent}
use Rattle.c_handles.specs.declared.lent.loan.Loan.{Loan}
use Rattle.c_handles.specs.declared.lent.image.LentImage.{LentImage}
use Rattle.c_handles.specs.Lent.Images.{bytes_now, write_bytes_given}
use Rattle.c_handles.specs.declared.objects.opened.OpenObject.{OpenObject}

-- the same part of the right to the same bytes at the same place, which are lent: what goes back of
-- a loan
abbrev pub IsLoanOf : Loan → Lent → Type 0
IsLoanOf loan lent =
    (lent.lent ≡ true) × (lent.part ≡ loan.part) × (lent.at ≡ loan.at) × (lent.bytes ≡ loan.bytes)

-- what came of bytes that were lent: an image of them, to which nothing was written
abbrev pub IsLentAs : Lent → LentImage → Type 0
IsLentAs lent image =
    (image.loan.part ≡ lent.part) × (image.loan.at ≡ lent.at) × (image.loan.bytes ≡ lent.bytes)
    × (bytes_now image ≡ lent.bytes) × (write_bytes_given image ≡ 0)

-- what was lent, as it comes back
abbrev pub IsBack : Lent → Lent → Type 0
IsBack lent back =
    (back.lent ≡ true) × (back.part ≡ lent.part) × (back.at ≡ lent.at) × (back.bytes ≡ lent.bytes)

-- a loan as it was
abbrev pub SameLoan : Loan → Loan → Type 0
SameLoan old new =
    (new.part ≡ old.part) × (new.at ≡ old.at) × (new.bytes ≡ old.bytes)

-- an image as it was: of the same loan, with the same written to it
abbrev pub SameImage : LentImage → LentImage → Type 0
SameImage old new =
    SameLoan old.loan new.loan × (bytes_now new ≡ bytes_now old)
    × (write_bytes_given new ≡ write_bytes_given old)

-- the object is the stated one, and a refusal too, but for want of memory
abbrev pub OpensAsStated : {A B : Type 0} → Result Object ElfError
    → Result (Box OpenObject A) (B × ElfError) → Type 0
OpensAsStated stated (Ok object) = stated ≡ Ok object.value.elf.o
OpensAsStated stated (Err back) = (back.1 ≡ Memory) ⊎ (stated ≡ Err back.1)

-- the object stays, and the image that it is over
pub record SameObject (old new : State LentImage) : Type 0 where
  pub object : new.o ≡ old.o
  pub image : SameImage old.source new.source
