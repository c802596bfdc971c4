-- Which errors stop a tool, and what the answer of a call is to one.
use Rattle.std.specs.Prelude.{Option, Some, None, Result, Ok, Err}
use Rattle.elf_types.specs.declared.errors.ElfError.{ElfError}
use Rattle.elf_types.specs.declared.errors.ElfError.TheVariants as error
use Rattle.tool_output.specs.declared.stops.Stop.{Stop}
use Rattle.tool_output.specs.declared.stops.Stop.TheVariants.{Read, Write, Memory}

-- want of memory, a failed read and a failed write stop a tool; every other error is a refusal
abbrev pub stop_of : ElfError → Option Stop
stop_of error.Memory = Some Memory
stop_of error.Read = Some Read
stop_of error.Write = Some Write
stop_of e = None

-- what a call answered: its value, none where it is refused, or the stop
abbrev pub value_or_stop : {T : Type 0} → Result T ElfError → Result (Option T) Stop
value_or_stop (Ok x) = Ok (Some x)
value_or_stop (Err e) = elim (stop_of e) [ None ↦ Ok None | Some stop ↦ Err stop ]
