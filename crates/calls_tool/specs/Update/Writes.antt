-- Steps that write the image of an object to a new file.
use Rattle.std.specs.Prelude.{◌≡◌, ◌≤◌, ◌<◌, ◌+◌, ◌-◌, ◌^◌, ℕ, Bool, List, [], IsTrue, Option, Some, None, Result, Ok, OnOk}
use Rattle.elf_types.specs.declared.errors.ElfError.{ElfError}
use Rattle.elf_outside.specs.Asks.{Leaves}
use Rattle.elf_outside.specs.Counts.{RaisedAtMost}
use Rattle.elf_outside.specs.declared.sources.Source.{Ghosts as SourceGhosts}
use Rattle.elf_outside.specs.declared.sinks.Sink.{Ghosts as SinkGhosts}
use Rattle.elf_outside.specs.declared.file_sets.Files.{Ghosts as FilesGhosts}
use Rattle.elf_object.specs.Object.{Object}
use Rattle.elf_object.specs.Calls as calls
use Rattle.elf_object.specs.Runs.{left_by}
use Rattle.elf_object.specs.Image.{image}
use Rattle.elf_object.specs.Due.{update_to_due, homes_due}
use Rattle.elf_update_plan.specs.elf_descriptor.State.{State}
use Rattle.calls_tool.specs.declared.update.outputs.CallsOutput.TheVariants.{To}
use Rattle.tool_output.specs.declared.stops.Stop.{Stop}
use Rattle.tool_output.specs.declared.outputs.Outputs.{Outputs}
use Rattle.tool_output.specs.Statuses.{refused_status}
use Rattle.tool_output.specs.Files.{LeavesFilesBy}
use Rattle.tool_output.specs.Outcomes.{Outcome, Does}
use Rattle.tool_objects.specs.Steps.{SourceRose}
use Rattle.tool_output.specs.Made.{made_file}
use Rattle.tool_files.specs.Making.{outcome_giving}
use Rattle.tool_files.specs.Edits.{unbounded}
use Rattle.elf_calls_script.specs.declared.calls.Call.{Call}
use Rattle.calls_tool.specs.Reads.{read_by}
use Rattle.calls_tool.specs.Runs.{stated_calls, update_report}
use Rattle.calls_tool.specs.Update.Updates.{updated_writes, updated_gives, updated_outcome}

-- the update of an object to a new file, and its line, by what the update answers
abbrev pub left_by_answer : List ℕ → Object → Result ℕ ElfError → Outcome
left_by_answer out o answer =
    outcome_giving (update_report answer) (updated_writes (made_file out (image o)) answer)
    (updated_gives None answer)

abbrev pub left_outcome : List ℕ → Object → Outcome
left_outcome out o = left_by_answer out o (calls.update_null.answer o)

-- What such a step leaves, whatever it states: the source of the object holds what it held, the
-- file that is made is closed again and nothing is asked of it, and the step stops by Read only
-- where a read of the source failed.
pub record LeavesOpen {S F D O E : Type 0} (s : SourceGhosts S) (f : FilesGhosts F D)
    (o : SinkGhosts O) (e : SinkGhosts E) (result : Result Bool Stop) (old new : State S)
    (files_old files_new : F) (outputs_old outputs_new : Outputs O E) : Type 0 where
  pub source : Leaves s old.source new.source
  pub later : s.faults old.source ≤ s.faults new.source
  pub taken : f.taken files_new ≡ f.taken files_old
  pub live : f.live files_old < 2 ^ 64 - 2 → f.live files_new ≡ f.live files_old
  pub leaves : LeavesFilesBy f o e (SourceRose s old new) result files_old files_new
      outputs_old outputs_new

-- it writes the image of an object whose update is not refused, and the line of its size
pub record WritesLaid {S F D O E : Type 0} (s : SourceGhosts S) (f : FilesGhosts F D)
    (o : SinkGhosts O) (e : SinkGhosts E) (out : List ℕ) (size : ℕ) (result : Result Bool Stop)
    (old new : State S) (files_old files_new : F) (outputs_old outputs_new : Outputs O E)
    : Type 0 where
  pub does : IsTrue (f.tells files_old) → IsTrue old.told → Does f o e refused_status
      (left_by_answer out old.o (Ok size)) result files_old files_new outputs_old outputs_new
  pub asks : RaisedAtMost (s.taken old.source) (s.taken new.source)
      (update_to_due old.o old.loaded)
  pub leaves : LeavesOpen s f o e result old new files_old files_new outputs_old outputs_new

-- it writes the image of the object, and the line of that
pub record WritesLeft {S F D O E : Type 0} (s : SourceGhosts S) (f : FilesGhosts F D)
    (o : SinkGhosts O) (e : SinkGhosts E) (out : List ℕ) (result : Result Bool Stop)
    (old new : State S) (files_old files_new : F) (outputs_old outputs_new : Outputs O E)
    : Type 0 where
  pub does : IsTrue (f.tells files_old) → IsTrue old.told → Does f o e refused_status
      (left_outcome out old.o) result files_old files_new outputs_old outputs_new
  pub asks : RaisedAtMost (s.taken old.source) (s.taken new.source)
      (update_to_due old.o old.loaded)
  pub leaves : LeavesOpen s f o e result old new files_old files_new outputs_old outputs_new

-- it runs calls on the object before
pub record WritesCalls {S F D O E : Type 0} (s : SourceGhosts S) (f : FilesGhosts F D)
    (o : SinkGhosts O) (e : SinkGhosts E) (cs : List Call) (out : List ℕ)
    (result : Result Bool Stop) (old new : State S) (files_old files_new : F)
    (outputs_old outputs_new : Outputs O E) : Type 0 where
  pub does : IsTrue (f.tells files_old) → IsTrue old.told → Does f o e refused_status
      (unbounded (updated_outcome (To out) cs [] None old.o)) result files_old files_new
      outputs_old outputs_new
  pub asks : IsTrue old.told → OnOk result (s.taken new.source ≤ s.taken old.source
      + (homes_due old.o [] (read_by (stated_calls cs) old.o)
      + update_to_due (left_by (stated_calls cs) old.o) []))
  pub leaves : LeavesOpen s f o e result old new files_old files_new outputs_old outputs_new
