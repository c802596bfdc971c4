-- What a call leaves of the handle of an archive that C hands in.
use Rattle.std.specs.Prelude.{◌≡◌, ◌⊎◌, ℕ, true, false, Result, Ok}
use Rattle.elf_types.specs.declared.errors.ElfError.{ElfError}
use Rattle.ar_members.specs.Archives.{Walk}
use Rattle.c_handles.specs.declared.lent.loan.Lent.{Lent}
use Rattle.c_handles.specs.Objects.Objects.{IsLentAs, SameImage}
use Rattle.c_handles.specs.declared.archives.handle.ArchiveHandle.{ArchiveHandle}
use Rattle.elfkit_c.specs.Handles.{IsRefusalNumber}

-- the handle holds an archive whose walk is the one that is stated of the bytes that were lent; or
-- the number is that of its refusal, or of want of memory, and the handle is empty
abbrev pub BeginsArchive : Lent → Result Walk ElfError → ℕ → ArchiveHandle → Type 0
BeginsArchive lent stated number h =
    ((number ≡ 0) × (h.full ≡ true) × (stated ≡ Ok h.held.ar.walk)
    × IsLentAs lent h.held.ar.source)
    ⊎ ((h.full ≡ false) × IsRefusalNumber stated number)

-- the archive as it was
abbrev pub KeepsArchive : ArchiveHandle → ArchiveHandle → Type 0
KeepsArchive old new = (new.full ≡ true) × (new.held ≡ old.held)

-- the archive, of which the walk may have gone on, and the name may be another
abbrev pub WalksOn : ArchiveHandle → ArchiveHandle → Type 0
WalksOn old new =
    (new.full ≡ true)
    × SameImage old.held.ar.source new.held.ar.source
    × (new.held.symbols ≡ old.held.symbols)

-- the archive with its walk, of which the symbols may have been read
abbrev pub Lists : ArchiveHandle → ArchiveHandle → Type 0
Lists old new =
    (new.full ≡ true)
    × SameImage old.held.ar.source new.held.ar.source
    × (new.held.ar.walk ≡ old.held.ar.walk) × (new.held.name ≡ old.held.name)
