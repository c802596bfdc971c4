-- What is refused before the places are given: the string index, and a table of names that would be
-- too large (gABI chapter 4, "ELF Header", e_shstrndx).
use Rattle.std.specs.Prelude.{◌≡◌, ◌⊎◌, ℕ, not, ◌==◌, ◌&&◌, nat_le, Option, Some, None, Result, Ok, Err}
use Rattle.elf_types.specs.Answers.{refused_if}
use Rattle.elf_types.specs.declared.errors.ElfError.{ElfError}
use Rattle.elf_types.specs.declared.errors.ElfError.TheVariants.{NoSection}
use Rattle.rebuild_tables.specs.rebuild_keep.declared.naming.Names.{Names}
use Rattle.rebuild_tables.specs.rebuild_keep.Answers.{ChecksNames}

-- a string index is neither 0 nor the number of one of so many sections
abbrev pub index_beyond : ℕ → ℕ → Option ElfError
index_beyond s count = refused_if (not (s == 0) && nat_le count s) (NoSection s count)

-- so it is refused, and then the names are
abbrev pub ChecksLast : Names → ℕ → ℕ → Result (Unit {0}) ElfError → Type 0
ChecksLast names s count (Ok x) = (index_beyond s count ≡ None) × ChecksNames names (Ok x)
ChecksLast names s count (Err e) =
    (index_beyond s count ≡ Some e)
    ⊎ ((index_beyond s count ≡ None) × ChecksNames names (Err e))
