-- What a call did to the object that was taken from a handle, it did to what the handle holds.
use Rattle.std.proofs.Common.{◌≡◌, true, sym, subst}
use Rattle.elf_descriptor.specs.State.{State}
use Rattle.c_handles.specs.declared.lent.image.LentImage.{LentImage}
use Rattle.c_handles.specs.declared.objects.handle.Handle.{Handle}
use Rattle.c_handles.specs.declared.objects.opened.OpenObject.{OpenObject}

pub left_in : (P : State LentImage → State LentImage → Type 0) (old new : Handle)
    (object left : OpenObject) → object ≡ old.held → (new.full ≡ true) × (new.held ≡ left)
    → P object.elf left.elf → P old.held.elf new.held.elf
left_in P old new object left taken put did =
    subst (λ (x : OpenObject). P old.held.elf x.elf) (sym put.1)
    (subst (λ (x : OpenObject). P x.elf left.elf) taken did)
