-- How a tool refuses a file for an error of the library.
use Rattle.std.specs.Prelude.{◌≡◌, ◌||◌, ℕ, List, Bool, Result, Ok, Err, IfSome, IfNone}
use Rattle.elf_types.specs.declared.errors.ElfError.{ElfError}
use Rattle.elf_types.specs.Text.{error_text}
use Rattle.tool_output.specs.elf_outside.declared.sinks.Sink.{Ghosts}
use Rattle.tool_output.specs.declared.stops.Stop.{Stop}
use Rattle.tool_output.specs.declared.outputs.Outputs.{Outputs}
use Rattle.tool_output.specs.Names.{Name}
use Rattle.tool_output.specs.Reports.{Reports, refusal_report}
use Rattle.tool_output.specs.Steps.{LeavesOutputs}
use Rattle.tool_output.specs.Stops.{stop_of}

-- It gives the message of the error, or stops where the error is no refusal: then nothing is
-- written. It reads nothing.
pub record ReportsRefusal {O E
    : Type 0} (o : Ghosts O) (e : Ghosts E) (command : List ℕ) (name : Name)
    (error : ElfError) (result : Result Bool Stop) (old new : Outputs O E) : Type 0 where
  pub reports : IfNone (stop_of error)
      (Reports o e result old new (refusal_report command name (error_text error)))
  pub stops : IfSome (stop_of error) (λ stop. (result ≡ Err stop) × (new ≡ old))
  pub leaves : IfNone (stop_of error) (LeavesOutputs o e ⊥ result old new)

-- what a step returns, by whether something was refused before it
abbrev pub IsJoined : Bool → Result Bool Stop → Result Bool Stop → Type 0
IsJoined before (Ok refused) result = result ≡ Ok (before || refused)
IsJoined before (Err stop) result = result ≡ Err stop

-- a file is refused behind other reports on it
pub record EndsByRefusal {O E : Type 0} (o : Ghosts O) (e : Ghosts E) (command : List ℕ)
    (name : Name) (error : ElfError) (before : Bool) (result : Result Bool Stop)
    (old new : Outputs O E) : Type 0 where
  pub own : Result Bool Stop
  pub refuses : ReportsRefusal o e command name error own old new
  pub joined : IsJoined before own result
