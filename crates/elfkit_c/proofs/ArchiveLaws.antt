-- What the handle of an archive holds once the archive that was taken from it is put back.
use Rattle.std.proofs.Common.{◌≡◌, true, sym, ◌∙◌, subst}
use Rattle.c_handles.specs.declared.archives.handle.ArchiveHandle.{ArchiveHandle}
use Rattle.c_handles.specs.declared.archives.opened.OpenArchive.{OpenArchive}
use Rattle.elfkit_c.specs.Archives.{KeepsArchive}

pub keeps_archive : (old new : ArchiveHandle) (archive : OpenArchive) → archive ≡ old.held
    → (new.full ≡ true) × (new.held ≡ archive) → KeepsArchive old new
keeps_archive old new archive taken put = (put.0, put.1 ∙ taken)

-- what a call did to the archive, it did to what the handle holds
pub carried : (P : OpenArchive → OpenArchive → Type 0) (old new : ArchiveHandle)
    (archive left : OpenArchive) → archive ≡ old.held
    → (new.full ≡ true) × (new.held ≡ left) → P archive left → P old.held new.held
carried P old new archive left taken put did =
    subst (λ (x : OpenArchive). P old.held x) (sym put.1)
    (subst (λ (x : OpenArchive). P x left) taken did)
