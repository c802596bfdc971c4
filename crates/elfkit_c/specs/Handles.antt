-- What a call leaves of the handle that C hands in.
use Rattle.std.specs.Prelude.{◌≡◌, ◌⊎◌, ℕ, true, false, Result, Ok, Err}
use Rattle.elf_types.specs.declared.errors.ElfError.{ElfError}
use Rattle.elf_types.specs.declared.errors.ElfError.TheVariants.{Memory}
use Rattle.elf_object.specs.Object.{Object}
use Rattle.c_handles.specs.declared.lent.loan.Lent.{Lent}
use Rattle.c_handles.specs.Objects.Objects.{SameObject, IsLentAs, IsBack}
use Rattle.c_handles.specs.declared.objects.handle.Handle.{Handle}
use Rattle.c_records.specs.Codes.{code}

-- the object as it was
abbrev pub KeepsHandle : Handle → Handle → Type 0
KeepsHandle old new = (new.full ≡ true) × (new.held ≡ old.held)

-- the object as it was, of which more may have been read
abbrev pub Holds : Handle → Handle → Type 0
Holds old new = (new.full ≡ true) × SameObject old.held.elf new.held.elf

-- the number is that of the stated refusal, or of want of memory
abbrev pub IsRefusalNumber : {A : Type 0} → Result A ElfError → ℕ → Type 0
IsRefusalNumber (Ok x) number = number ≡ code Memory
IsRefusalNumber (Err e) number = (number ≡ code Memory) ⊎ (number ≡ code e)

-- the handle holds the object that is stated of the bytes that were lent; or the number is that of
-- its refusal, or of want of memory, and the handle is empty
abbrev pub BeginsHandle : Lent → Result Object ElfError → ℕ → Handle → Type 0
BeginsHandle lent stated number h =
    ((number ≡ 0) × (h.full ≡ true) × (stated ≡ Ok h.held.elf.o)
    × IsLentAs lent h.held.elf.source)
    ⊎ ((h.full ≡ false) × IsRefusalNumber stated number)

-- the bytes are lent on where the handle holds the object, and else they are C's again
abbrev pub ComesBack : Lent → ℕ → Lent → Lent → Type 0
ComesBack lent number old new =
    ((number ≡ 0) × (new ≡ old))
    ⊎ IsBack lent new
