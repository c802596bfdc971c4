-- The line that tells the format of an archive, and its size.
use Rattle.std.specs.Prelude.{◌<◌, ◌≤◌, ℕ, Bool, not, List, [], ◌∷◌, length, Option, nat_eq, nat_lt}
use Rattle.std.specs.List.{starts_with}
use Rattle.elf_types.specs.declared.constants.TheConstants.{ARMAG, MAX_IMAGE}
use Rattle.elf_types.specs.declared.errors.ElfError.{ElfError}
use Rattle.elf_types.specs.declared.errors.ElfError.TheVariants.{Read, Short, Magic, TooLarge}
use Rattle.elf_types.specs.Answers.{refused_if, first_refusal}
use Rattle.ar_members.specs.declared.headers.TheConstants.{FIRST}

-- the first line of an archive
unfoldable pub is_archive : List ℕ → Bool
is_archive bytes = starts_with nat_eq bytes ARMAG

-- an archive is shorter than its first line, or begins with another, or is too large
unfoldable pub archive_refusal : List ℕ → Option ElfError
archive_refusal bytes =
    first_refusal (refused_if (nat_lt (length bytes) FIRST) Short
    ∷ refused_if (not (is_archive bytes)) Magic
    ∷ refused_if (nat_lt MAX_IMAGE (length bytes)) TooLarge
    ∷ [])

-- the length of an archive that is not refused
abbrev pub IsArchiveSize : ℕ → Type 0
IsArchiveSize size = (FIRST ≤ size) × (size ≤ MAX_IMAGE)

-- what is so of the length where an archive is refused, whatever bytes were read
abbrev pub RefusesBySize : ℕ → ElfError → Type 0
RefusesBySize size Short = size < FIRST
RefusesBySize size Magic = FIRST ≤ size
RefusesBySize size TooLarge = MAX_IMAGE < size
RefusesBySize size Read = FIRST ≤ size
RefusesBySize size _ = ⊥
