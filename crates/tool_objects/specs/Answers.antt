-- What the answer of a call is to a tool that passes over what is refused.
use Rattle.std.specs.Prelude.{Option, Some, None, Result, Ok, Err}
use Rattle.elf_types.specs.declared.errors.ElfError.{ElfError}

-- its value, or none where it is refused
abbrev pub value_of : {A : Type 0} → Result A ElfError → Option A
value_of (Ok x) = Some x
value_of (Err e) = None
