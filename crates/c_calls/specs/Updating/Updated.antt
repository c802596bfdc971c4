-- What an update of an object does for C.
use Rattle.std.specs.Prelude.{◌≡◌, ℕ, List, [], Result, Ok, Err, IsOk}
use Rattle.elf_types.specs.declared.errors.ElfError.{ElfError}
use Rattle.elf_types.specs.declared.errors.ElfError.TheVariants.{Memory, Write}
use Rattle.elf_layout.specs.Layout.{MayWantMemory}
use Rattle.elf_object.specs.Object.{Object}
use Rattle.elf_object.specs.Calls.{update_null}
use Rattle.elf_object.specs.Image.{image}
use Rattle.elf_object.specs.Layout.{placed}
use Rattle.elf_descriptor.specs.State.{State}
use Rattle.elf_descriptor.specs.Edits.{flagged}
use Rattle.c_handles.specs.declared.lent.image.LentImage.{LentImage}
use Rattle.c_calls.specs.Editing.Edited.{GivesIfRoom}
use Rattle.c_calls.specs.declared.updating.room.Room.{Room}

-- the places are stored, and the length of the image is given
abbrev pub LaysOut : ℕ → State LentImage → State LentImage → ℕ → ℕ → Type 0
LaysOut number old new given_old given_new =
    GivesIfRoom {C = ℕ × State LentImage} (λ length. (length, flagged update_null old))
    (MayWantMemory (update_null.answer old.o)) (update_null.answer old.o) number (given_old, old)
    (given_new, new)

-- nothing was put yet into memory for so many bytes
pub record IsEmptyRoom (count : ℕ) (room : Room) : Type 0 where
  pub bytes : room.bytes.items ≡ []
  pub wide : room.room ≡ count
  pub faults : room.faults ≡ 0

-- an update whose image fills the memory that it is put into has done all where a put failed
abbrev pub write_fault_as_done : Result ℕ ElfError → Result (Unit {0}) ElfError
write_fault_as_done (Ok x) = Ok tt
write_fault_as_done (Err Write) = Ok tt
write_fault_as_done (Err e) = Err e

-- the image was put and the places are stored; or nothing is changed, by the refusal that is stated
-- or for want of memory
abbrev pub PutsInto : Result (Unit {0}) ElfError → State LentImage → State LentImage → Room → Type 0
PutsInto (Ok x) old new room =
    IsOk (update_null.answer old.o) × (room.bytes.items ≡ image old.o) × (new.o ≡ placed old.o)
PutsInto (Err Memory) old new room = new.o ≡ old.o
PutsInto (Err e) old new room = (update_null.answer old.o ≡ Err e) × (new.o ≡ old.o)

-- the image is given, and the places are stored; or want of memory, and then nothing is changed
abbrev pub PutsImage : ℕ → State LentImage → State LentImage → List ℕ → List ℕ → Type 0
PutsImage number old new given_old given_new =
    GivesIfRoom {C = List ℕ × Object} (λ _. (image old.o, placed old.o)) (Unit {0})
    (update_null.answer old.o) number (given_old, old.o) (given_new, new.o)
