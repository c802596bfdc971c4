-- How a step that makes an object is refused.
use Rattle.std.specs.Prelude.{◌≡◌, Option, Some}
use Rattle.elf_types.specs.declared.errors.ElfError.{ElfError}
use Rattle.elf_types.specs.declared.errors.ElfError.TheVariants.{Memory, Read, Write}

-- by the stated refusal, or for want of memory, which is free; it reads and writes nothing
abbrev pub RefusedBy : Option ElfError → ElfError → Type 0
RefusedBy stated Memory = Unit {0}
RefusedBy stated Read = ⊥
RefusedBy stated Write = ⊥
RefusedBy stated e = stated ≡ Some e

-- the same of a step that reads besides: the cause of Read is a count of the outside
abbrev pub UnreadBy : Option ElfError → ElfError → Type 0
UnreadBy stated Memory = Unit {0}
UnreadBy stated Read = Unit {0}
UnreadBy stated Write = ⊥
UnreadBy stated e = stated ≡ Some e
