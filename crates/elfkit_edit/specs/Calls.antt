-- The command calls: the calls of a script on an image, and the update that may follow them.
use Rattle.std.specs.Prelude.{ℕ, List, length, IsTrue, codes, Option, Some, None, Result, Ok, Err}
use Rattle.elf_outside.specs.Names.{Map}
use Rattle.elf_outside.specs.declared.sinks.Sink.{Ghosts as SinkGhosts}
use Rattle.elf_outside.specs.declared.file_sets.Files.{Ghosts as FilesGhosts}
use Rattle.calls_tool.specs.declared.update.outputs.CallsOutput.{CallsOutput}
use Rattle.tool_output.specs.declared.stops.Stop.{Stop}
use Rattle.tool_output.specs.declared.outputs.Outputs.{Outputs}
use Rattle.tool_output.specs.Names.{file_name}
use Rattle.tool_output.specs.Steps.{Performs}
use Rattle.tool_output.specs.Reports.{Report, refusal_report}
use Rattle.tool_output.specs.Files.{report_on, asks_on, both_bounds, IsWithin, OnlyReads, LeavesFiles}
use Rattle.tool_output.specs.Outcomes.{Outcome, report_outcome}
use Rattle.elfkit_outcomes.specs.tool_objects.Images.{file_object}
use Rattle.elf_calls_script.specs.declared.calls.Call.{Call}
use Rattle.calls_tool.specs.Scripts.{script_calls, calls_or_text, script_report, calls_if_any}
use Rattle.calls_tool.specs.Files.{calls_file_report, calls_asks}
use Rattle.calls_tool.specs.Update.Updates.{updated_by}

-- ---- The script

-- the calls of what a name holds, or the text that says why there are none
abbrev pub script_of : Option (List ℕ) → Result (List Call) (List ℕ)
script_of (Some bytes) = calls_or_text (script_calls bytes)
script_of None = Err (codes "not found")

-- it is read at once
abbrev pub script_asks : List ℕ → Option ℕ
script_asks bytes = Some (length bytes)

-- A step over files reads the calls of a script, or gives the message that says why there are none,
-- and closes it.
pub record ReadsCalls {F D O E : Type 0} (f : FilesGhosts F D) (o : SinkGhosts O) (e : SinkGhosts E)
    (script : List ℕ) (result : Result (Option (List Call)) Stop) (files_old files_new : F)
    (old new : Outputs O E) : Type 0 where
  pub says : IsTrue (f.tells files_old) → Performs o e result old new
      (script_report (file_name script) (script_of (f.named files_old script))).marks
      (calls_if_any (script_of (f.named files_old script)))
  pub asks : IsTrue (f.tells files_old) →
      IsWithin (asks_on script_asks (f.named files_old) script)
      (f.taken files_old) (f.taken files_new)
  pub reads : OnlyReads f files_old files_new
  pub leaves : LeavesFiles f o e result files_old files_new old new

-- ---- The file

-- what its calls say of the file, or the message of a script without calls; then the file is not
-- opened
abbrev pub calls_report_by : Result (List Call) (List ℕ) → List ℕ → List ℕ → Map → Report
calls_report_by (Ok calls) file script named =
    report_on (codes "calls") (calls_file_report calls) named file
calls_report_by (Err text) file script named = refusal_report (codes "calls") (file_name script) text

-- what they ask the file for at most
abbrev pub calls_file_asks : List Call → List ℕ → Option ℕ
calls_file_asks calls bytes = Some (calls_asks calls bytes)

abbrev pub calls_asks_by : Result (List Call) (List ℕ) → List ℕ → Map → Option ℕ
calls_asks_by (Ok calls) file named = asks_on (calls_file_asks calls) named file
calls_asks_by (Err text) file named = Some 0

-- ---- The command

unfoldable pub calls_outcome : List ℕ → List ℕ → Map → Outcome
calls_outcome file script named =
    report_outcome
    (calls_report_by (script_of (named script)) file script named)
    (both_bounds (asks_on script_asks named script)
    (calls_asks_by (script_of (named script)) file named))

-- ---- With -o and -i the image is written that the calls leave

-- by what the name of FILE holds
abbrev pub updated_held : CallsOutput → List Call → List ℕ → Option ℕ → Option (List ℕ) → Outcome
updated_held output cs file asked (Some bytes) =
    updated_by output cs file (both_bounds asked (Some (calls_asks cs bytes))) (file_object bytes)
updated_held output cs file asked None =
    report_outcome (refusal_report (codes "calls") (file_name file) (codes "not found")) asked

-- by what the script says
abbrev pub updated_script : CallsOutput → Result (List Call) (List ℕ) → List ℕ → List ℕ
    → Option ℕ → Option (List ℕ) → Outcome
updated_script output (Ok cs) file script asked held = updated_held output cs file asked held
updated_script output (Err text) file script asked held =
    report_outcome (refusal_report (codes "calls") (file_name script) text) asked

unfoldable pub calls_update_outcome : CallsOutput → List ℕ → List ℕ → Map → Outcome
calls_update_outcome output file script named =
    updated_script output (script_of (named script)) file script
    (asks_on script_asks named script) (named file)
