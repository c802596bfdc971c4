-- What a handle holds once the object that was taken from it is put back.
use Rattle.std.proofs.Common.{◌≡◌, true, sym, ◌∙◌, subst}
use Rattle.c_handles.specs.Objects.Objects.{SameObject}
use Rattle.c_handles.specs.declared.objects.handle.Handle.{Handle}
use Rattle.c_handles.specs.declared.objects.opened.OpenObject.{OpenObject}
use Rattle.elfkit_c.specs.Handles.{KeepsHandle, Holds}

pub keeps : (old new : Handle) (object : OpenObject) → object ≡ old.held
    → (new.full ≡ true) × (new.held ≡ object) → KeepsHandle old new
keeps old new object taken put = (put.0, put.1 ∙ taken)

pub holds : (old new : Handle) (object left : OpenObject) → object ≡ old.held
    → SameObject object.elf left.elf → (new.full ≡ true) × (new.held ≡ left) → Holds old new
holds old new object left taken same put = (
  put.0,
  subst (λ (x : OpenObject). SameObject old.held.elf x.elf) (sym put.1)
      (subst (λ (x : OpenObject). SameObject x.elf left.elf) taken same),
)
