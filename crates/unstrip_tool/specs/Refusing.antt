-- Which message unstrip gives of a file, or why it stops.
use Rattle.std.specs.Prelude.{◌≡◌, ℕ, Bool, List, codes, Result, Err}
use Rattle.elf_outside.specs.declared.sinks.Sink.{Ghosts}
use Rattle.elf_outside.specs.declared.file_sets.OpenFault.{OpenFault}
use Rattle.elf_outside.specs.declared.file_sets.OpenFault.TheVariants as opening
use Rattle.tool_output.specs.declared.stops.Stop.{Stop}
use Rattle.tool_output.specs.declared.stops.Stop.TheVariants.{Read, Memory}
use Rattle.tool_output.specs.declared.outputs.Outputs.{Outputs}
use Rattle.tool_output.specs.Names.{file_name}
use Rattle.tool_output.specs.Reports.{Reports, refusal_report}
use Rattle.tool_output.specs.Steps.{LeavesOutputs}
use Rattle.rebuild_files.specs.tool_objects.Refusals.{ReportsRefusal}
use Rattle.rebuild_join.specs.declared.joined.faults.UnstripFault.{UnstripFault}
use Rattle.rebuild_join.specs.declared.joined.faults.UnstripFault.TheVariants as faults
use Rattle.unstrip_tool.specs.declared.names.HalfNames.{HalfNames}

-- a text is told of a file
pub record RefusesWith {O E : Type 0} (o : Ghosts O) (e : Ghosts E) (name text : List ℕ)
    (result : Result Bool Stop) (old new : Outputs O E) : Type 0 where
  pub reports : Reports o e result old new (refusal_report (codes "unstrip") (file_name name) text)
  pub leaves : LeavesOutputs o e ⊥ result old new

-- a step stops before it writes
abbrev pub StopsBy : {O E : Type 0} → Stop → Result Bool Stop → Outputs O E → Outputs O E → Type 0
StopsBy stop result old new = (result ≡ Err stop) × (new ≡ old)

-- a file is not handed out
abbrev pub RefusesUnopened : {O E : Type 0} → Ghosts O → Ghosts E → List ℕ → OpenFault
    → Result Bool Stop → Outputs O E → Outputs O E → Type 0
RefusesUnopened o e name opening.NotThere result old new =
    RefusesWith o e name (codes "not found") result old new
RefusesUnopened o e name opening.Failed result old new = StopsBy Read result old new
RefusesUnopened o e name opening.Memory result old new = StopsBy Memory result old new

-- two files are not joined
abbrev pub RefusesFault : {O E : Type 0} → Ghosts O → Ghosts E → HalfNames → UnstripFault
    → Result Bool Stop → Outputs O E → Outputs O E → Type 0
RefusesFault o e names (faults.Elf c) result old new =
    ReportsRefusal o e (codes "unstrip") (file_name names.stripped.now) c result old new
RefusesFault o e names (faults.Debug c) result old new =
    ReportsRefusal o e (codes "unstrip") (file_name names.debug.now) c result old new
RefusesFault o e names faults.Mismatch result old new =
    RefusesWith o e names.stripped.now (codes "files do not match") result old new
