-- A step that obtains an object, or says why there is none.
use Rattle.std.specs.Prelude.{ℕ, List, Option, Some, None, Result, Ok, Err, IfOk}
use Rattle.tool_output.specs.elf_outside.declared.sinks.Sink.{Ghosts}
use Rattle.gelf_view.specs.elf_object.Object.{Object}
use Rattle.tool_output.specs.declared.stops.Stop.{Stop}
use Rattle.tool_output.specs.declared.outputs.Outputs.{Outputs}
use Rattle.tool_output.specs.Made.{Complaint, complaint_report}
use Rattle.tool_output.specs.Steps.{Writes}

-- a value that holds the stated object, as `Is` tells, or none where a complaint is stated
abbrev pub IsObtained : {V : Type 0} → (V → Object → Type 0) → Option V → Result Object Complaint
    → Type 0
IsObtained Is (Some v) (Ok o) = Is v o
IsObtained Is (Some v) (Err c) = ⊥
IsObtained Is None (Ok o) = ⊥
IsObtained Is None (Err c) = Unit {0}

-- It answers such a value, or writes the message of the complaint and answers none.
pub record Obtains {O E V : Type 0} (o : Ghosts O) (e : Ghosts E) (command : List ℕ)
    (Is : V → Object → Type 0) (stated : Result Object Complaint)
    (result : Result (Option V) Stop) (old new : Outputs O E) : Type 0 where
  pub writes : Writes o e result old new (complaint_report command stated).marks
  pub value : IfOk result (λ v. IsObtained Is v stated)
