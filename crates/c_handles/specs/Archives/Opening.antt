-- How an archive over lent bytes begins.
use Rattle.std.specs.Prelude.{◌≡◌, ◌⊎◌, Box, Result, Ok, Err}
use Rattle.elf_types.specs.declared.errors.ElfError.{ElfError}
use Rattle.elf_types.specs.declared.errors.ElfError.TheVariants.{Memory}
use Rattle.ar_members.specs.Archives.{Walk}
use Rattle.c_handles.specs.declared.archives.opened.OpenArchive.{OpenArchive}

-- its walk is the stated one, and a refusal too, but for want of memory
abbrev pub OpensArchive : {A B : Type 0} → Result Walk ElfError
    → Result (Box OpenArchive A) (B × ElfError) → Type 0
OpensArchive stated (Ok archive) = stated ≡ Ok archive.value.ar.walk
OpensArchive stated (Err back) = (back.1 ≡ Memory) ⊎ (stated ≡ Err back.1)
