-- What an update in place writes, for C.
use Rattle.std.specs.Prelude.{◌≡◌, ◌⊎◌, ◌+◌, ◌≤◌, ℕ, List, length, slice_get, Box, Result, Ok, Err, IsOk}
use Rattle.elf_types.specs.declared.errors.ElfError.{ElfError}
use Rattle.elf_types.specs.declared.errors.ElfError.TheVariants.{Memory, Write, NoEntry}
use Rattle.elf_types.specs.Answers.{or_refused}
use Rattle.elf_object.specs.Calls.{update_null}
use Rattle.elf_object.specs.Image.{image}
use Rattle.elf_object.specs.Changed.{changed_bytes}
use Rattle.elf_descriptor.specs.State.{State}
use Rattle.c_handles.specs.declared.lent.image.LentImage.{LentImage}
use Rattle.c_handles.specs.declared.lent.writes.KeptWrite.{KeptWrite}
use Rattle.c_handles.specs.Lent.Images.{write_bytes_given}
use Rattle.c_handles.specs.Lent.Writes.{with_writes, bytes_put}
use Rattle.c_handles.specs.declared.writes.planned.PlannedWrites.{PlannedWrites}
use Rattle.c_calls.specs.declared.writes.records.WriteRecord.{WriteRecord}

-- ---- The writes

-- Done one after the other, they make the bytes that were lent the image of the object. They put at
-- most the bytes of the parts that change and of the fill; what was given before is told besides.
pub record WritesMakeImage (elf : State LentImage) (writes : List KeptWrite) : Type 0 where
  pub image : with_writes writes elf.source.loan.bytes ≡ image elf.o
  pub most : bytes_put writes ≤ write_bytes_given elf.source + changed_bytes elf.o

-- they are given where the update is not refused; or the refusal is the stated one, or want of
-- memory
abbrev pub Plans : {A : Type 0} → State LentImage → Result (Box PlannedWrites A) ElfError → Type 0
Plans elf (Ok writes) = IsOk (update_null.answer elf.o) × WritesMakeImage elf writes.value.list
Plans elf (Err e) = (e ≡ Memory) ⊎ (update_null.answer elf.o ≡ Err e)

-- ---- On the way

-- an update whose writes are kept fails to write for want of memory
abbrev pub write_fault_as_memory : Result ℕ ElfError → Result (Unit {0}) ElfError
write_fault_as_memory (Ok n) = Ok tt
write_fault_as_memory (Err Write) = Err Memory
write_fault_as_memory (Err e) = Err e

-- the writes are put into a box where the update was done; or it is refused for want of memory
abbrev pub Boxes : {A : Type 0} → List KeptWrite → Result (Unit {0}) ElfError
    → Result (Box PlannedWrites A) ElfError → Type 0
Boxes list done (Ok writes) = IsOk done × (writes.value.list ≡ list)
Boxes list done (Err e) = (e ≡ Memory) ⊎ (done ≡ Err e)

-- ---- What C sees of them

-- a write
abbrev pub write_record : KeptWrite → WriteRecord
write_record x = record { size = x.size; at = x.at; len = length x.bytes }

-- the write at an index, or the refusal where there is none
abbrev pub write_at : List KeptWrite → ℕ → Result KeptWrite ElfError
write_at writes i = or_refused (slice_get writes i) (NoEntry i (length writes))
