-- What of an answer a definition states: all but want of memory.
use Rattle.std.specs.Prelude.{ℕ, Option, Some, None}
use Rattle.line_table.specs.declared.faults.LineWhy.{LineWhy}
use Rattle.line_table.specs.declared.faults.LineFault.{LineFault}
use Rattle.line_table.specs.declared.faults.LineFault.TheVariants as LineFaults
use Rattle.line_table.specs.declared.faults.UnitFault.{UnitFault}
use Rattle.line_table.specs.declared.faults.UnitFault.TheVariants.{Memory, Why}

-- the cause of a refusal, or None where memory ran out
abbrev pub why_of : UnitFault → Option LineWhy
why_of Memory = None
why_of (Why why) = Some why

-- a fault that a definition states, or None where memory ran out
abbrev pub stated_fault : LineFault → Option LineFault
stated_fault LineFaults.Memory = None
stated_fault (LineFaults.Bad at why) = Some (LineFaults.Bad at why)

-- the fault of a refusal at a place
abbrev pub fault_at : UnitFault → ℕ → LineFault
fault_at Memory at = LineFaults.Memory
fault_at (Why why) at = LineFaults.Bad at why
