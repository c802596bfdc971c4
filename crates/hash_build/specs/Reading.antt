-- What a symbol, or a name, that is refused tells of its hash.
use Rattle.std.specs.Prelude.{ℕ, Option, None, Result, Ok, Err}
use Rattle.elf_types.specs.declared.errors.ElfError.{ElfError}
use Rattle.elf_types.specs.declared.errors.ElfError.TheVariants.{Memory, Read}

-- it has none, unless it was for want of memory or a failed read
unfoldable pub no_hash : ElfError → Result (Option ℕ) ElfError
no_hash Memory = Err Memory
no_hash Read = Err Read
no_hash e = Ok None
