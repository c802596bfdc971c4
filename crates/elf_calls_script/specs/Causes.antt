-- What of a refusal a definition states: all but want of memory.
use Rattle.std.specs.Prelude.{Option, Some, None, Result}
use Rattle.elf_types.specs.Answers.{FollowsBy}
use Rattle.elf_calls_script.specs.declared.faults.Why.{Why}
use Rattle.elf_calls_script.specs.declared.faults.CallFault.{CallFault}
use Rattle.elf_calls_script.specs.declared.faults.CallFault.TheVariants as Stops

-- the cause, or None where memory ran out
abbrev pub call_fault_why : CallFault → Option Why
call_fault_why Stops.Memory = None
call_fault_why (Stops.Why why) = Some why

-- what was read is what is stated, unless memory ran out
abbrev pub PhraseFollows : {X : Type 0} → Result X CallFault → Result X Why → Type 0
PhraseFollows result stated = FollowsBy (λ x. x) call_fault_why result stated
