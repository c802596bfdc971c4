-- What a call leaves of the handle of writes that C hands in.
use Rattle.std.specs.Prelude.{◌≡◌, ◌⊎◌, ℕ, true, false, IsOk}
use Rattle.elf_object.specs.Calls.{update_null}
use Rattle.elf_descriptor.specs.State.{State}
use Rattle.c_handles.specs.declared.lent.image.LentImage.{LentImage}
use Rattle.c_handles.specs.declared.writes.handle.WritesHandle.{WritesHandle}
use Rattle.c_calls.specs.Writes.Plans.{WritesMakeImage}
use Rattle.elfkit_c.specs.Handles.{IsRefusalNumber}

-- the handle holds writes that make the image of an object; or the number is that of the stated
-- refusal, or of want of memory, and the handle is empty
abbrev pub PlansWrites : State LentImage → ℕ → WritesHandle → Type 0
PlansWrites elf number w =
    ((number ≡ 0) × (w.full ≡ true) × IsOk
    (update_null.answer elf.o) × WritesMakeImage elf w.held.list)
    ⊎ ((w.full ≡ false) × IsRefusalNumber (update_null.answer elf.o) number)

-- the writes as they were
abbrev pub KeepsWrites : WritesHandle → WritesHandle → Type 0
KeepsWrites old new = (new.full ≡ true) × (new.held ≡ old.held)
