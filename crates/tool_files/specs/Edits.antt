-- A file that stays open while other files are made of it.
use Rattle.std.specs.Prelude.{◌≡◌, ◌≤◌, ◌<◌, ◌+◌, ◌-◌, ◌^◌, ℕ, List, Bool, Option, Some, None, Result, Err, IfSome, OnOk, IsTrue, codes}
use Rattle.tool_output.specs.elf_outside.Asks.{Leaves}
use Rattle.tool_output.specs.elf_outside.Counts.{Rose, RaisedBy, RisesWith}
use Rattle.tool_output.specs.elf_outside.Names.{Map, Closes}
use Rattle.tool_output.specs.elf_outside.declared.sources.Source.{Ghosts as SourceGhosts}
use Rattle.tool_output.specs.elf_outside.declared.devices.Device.{Ghosts as DeviceGhosts}
use Rattle.tool_output.specs.elf_outside.declared.file_sets.OpenFault.{OpenFault}
use Rattle.tool_output.specs.elf_outside.declared.file_sets.OpenFault.TheVariants.{NotThere, Failed, Memory}
use Rattle.tool_output.specs.elf_outside.declared.sinks.Sink.{Ghosts as SinkGhosts}
use Rattle.tool_output.specs.elf_outside.declared.file_sets.Files.{Ghosts as FilesGhosts}
use Rattle.tool_output.specs.declared.stops.Stop.{Stop}
use Rattle.tool_output.specs.declared.stops.Stop.TheVariants as stop
use Rattle.tool_output.specs.declared.outputs.Outputs.{Outputs}
use Rattle.tool_output.specs.Names.{file_name}
use Rattle.tool_output.specs.Reports.{Reports, refusal_report}
use Rattle.tool_output.specs.Statuses.{refused_status}
use Rattle.tool_output.specs.Steps.{LeavesOutputs}
use Rattle.tool_output.specs.Files.{IsWithin, LeavesFilesBy}
use Rattle.tool_output.specs.Outcomes.{Outcome, report_outcome, Does}

-- what is done with a file that is there, or the message that it is not
unfoldable pub edited_outcome : List ℕ → (List ℕ → List ℕ → Outcome) → List ℕ → Map → Outcome
edited_outcome command outcome file named = of_held (named file)
  where
    of_held : Option (List ℕ) → Outcome
    of_held (Some bytes) = outcome file bytes
    of_held None =
        report_outcome (refusal_report command (file_name file) (codes "not found")) (Some 0)

-- the same outcome, with no bound on what is asked for
abbrev pub unbounded : Outcome → Outcome
unbounded stated = record stated { asks = None }

-- What a step does with a file that is open, which counts what it asks for by itself: all that is
-- stated for its bytes, where they are told. The files that it hands out meanwhile are closed
-- again, and the open one is left. It stops by Read only where a read of that one failed.
pub record EditsFile {S F D O E : Type 0} (s : SourceGhosts S) (f : FilesGhosts F D)
    (o : SinkGhosts O) (e : SinkGhosts E) (outcome : List ℕ → Outcome) (result : Result Bool Stop)
    (source_old source_new : S) (files_old files_new : F) (old new : Outputs O E) : Type 0 where
  pub does : IsTrue (f.tells files_old) → IfSome (s.holds source_old) (λ bytes.
      Does f o e refused_status (unbounded (outcome bytes)) result files_old files_new old new)
  pub asks : IsTrue (f.tells files_old) → IfSome (s.holds source_old) (λ bytes.
      OnOk result (IsWithin (outcome bytes).asks
      (s.taken source_old + f.taken files_old) (s.taken source_new + f.taken files_new)))
  pub source : Leaves s source_old source_new
  pub later : s.faults source_old ≤ s.faults source_new
  pub live : f.live files_old < 2 ^ 64 - 2 → f.live files_new ≡ f.live files_old
  pub leaves : LeavesFilesBy f o e (Rose (s.faults source_old) (s.faults source_new))
      result files_old files_new old new

-- What a step does with a file that could not be opened: a name that is not there has its message,
-- and otherwise it stops before it does anything.
abbrev pub RefusesOpening : {O E : Type 0} → SinkGhosts O → SinkGhosts E → List ℕ → List ℕ
    → OpenFault → Result Bool Stop → Outputs O E → Outputs O E → Type 0
RefusesOpening o e command name NotThere result old new =
    Reports o e result old new
    (refusal_report command (file_name name) (codes "not found"))
    × LeavesOutputs o e ⊥ result old new
RefusesOpening o e command name Failed result old new =
    (result ≡ Err stop.Read) × (new ≡ old)
RefusesOpening o e command name Memory result old new =
    (result ≡ Err stop.Memory) × (new ≡ old)

-- a step does what `EditsFile` says with an open file, which is then closed under its name
pub record EditsAndCloses {F D O E : Type 0} (s : SourceGhosts D) (d : DeviceGhosts D)
    (f : FilesGhosts F D) (o : SinkGhosts O) (e : SinkGhosts E) (outcome : List ℕ → Outcome)
    (name : List ℕ) (result : Result Bool Stop) (file : D) (files_old files_new : F)
    (old new : Outputs O E) : Type 0 where
  pub left : D
  pub middle : F
  pub edits : EditsFile s f o e outcome result file left files_old middle old new
  pub same_given : d.given left ≡ d.given file
  pub closed : Closes (f.tells middle) (f.named middle) (f.tells files_new) (f.named files_new)
      name (s.holds left)
  pub read_faults : RisesWith (f.read_faults middle) (f.read_faults files_new) (s.faults left)
  pub write_faults : RisesWith (f.write_faults middle) (f.write_faults files_new)
      (d.write_faults left)
  pub taken : RaisedBy (f.taken middle) (f.taken files_new) (s.taken left)
  pub given : RaisedBy (f.given middle) (f.given files_new) (d.given left)
  pub live : f.live files_new ≡ f.live middle - 1
