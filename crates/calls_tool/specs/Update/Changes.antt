-- Steps that write the image of an object in place, into the file that it is over.
use Rattle.std.specs.Prelude.{◌≡◌, ◌≤◌, ◌+◌, ℕ, Bool, List, [], IsTrue, Some, None, Result, Ok, OnOk}
use Rattle.elf_types.specs.declared.errors.ElfError.{ElfError}
use Rattle.elf_outside.specs.Counts.{RaisedAtMost}
use Rattle.elf_outside.specs.declared.sources.Source.{Ghosts as SourceGhosts}
use Rattle.elf_outside.specs.declared.devices.Device.{Ghosts as DeviceGhosts}
use Rattle.elf_outside.specs.declared.sinks.Sink.{Ghosts as SinkGhosts}
use Rattle.elf_object.specs.Object.{Object}
use Rattle.elf_object.specs.Calls as calls
use Rattle.elf_object.specs.Runs.{left_by}
use Rattle.elf_object.specs.Image.{image}
use Rattle.elf_object.specs.Due.{update_in_place_due, homes_due}
use Rattle.elf_update_plan.specs.elf_descriptor.State.{State}
use Rattle.calls_tool.specs.declared.update.outputs.CallsOutput.TheVariants.{InPlace}
use Rattle.tool_output.specs.declared.stops.Stop.{Stop}
use Rattle.tool_output.specs.declared.outputs.Outputs.{Outputs}
use Rattle.tool_output.specs.Files.{IsWithin}
use Rattle.tool_output.specs.Outcomes.{Outcome}
use Rattle.tool_files.specs.Making.{outcome_giving}
use Rattle.tool_files.specs.Edits.{unbounded}
use Rattle.tool_files.specs.Changes.{DoesInPlace, LeavesDevice}
use Rattle.elf_calls_script.specs.declared.calls.Call.{Call}
use Rattle.calls_tool.specs.Reads.{read_by}
use Rattle.calls_tool.specs.Runs.{stated_calls, update_report}
use Rattle.calls_tool.specs.Update.Updates.{write_by, update_gives, updated_writes, updated_gives, updated_outcome}

-- the update of an object in place and its line, by what the update answers
abbrev pub changed_by_answer : List ℕ → Object → Result ℕ ElfError → Outcome
changed_by_answer file o answer =
    outcome_giving (update_report answer)
    (updated_writes (write_by InPlace file (image o)) answer)
    (updated_gives (update_gives InPlace o) answer)

abbrev pub changed_outcome : List ℕ → Object → Outcome
changed_outcome file o = changed_by_answer file o (calls.update_null.answer o)

-- It writes the image of the object into the file that the device holds, under whatever name, and
-- the line of that, where the device held the base and no more. Over every device it asks for at
-- most what the update is due, and hands over at most what changes, nothing where it is refused.
pub record ChangesLeft {D O E : Type 0} (s : SourceGhosts D) (d : DeviceGhosts D)
    (o : SinkGhosts O) (e : SinkGhosts E) (result : Result Bool Stop) (old new : State D)
    (outputs_old outputs_new : Outputs O E) : Type 0 where
  pub does : (file : List ℕ) → s.holds old.source ≡ Some old.o.base →
      DoesInPlace s d o e (changed_outcome file old.o) file old.o.base result
      old.source new.source outputs_old outputs_new
  pub asks : RaisedAtMost (s.taken old.source) (s.taken new.source)
      (update_in_place_due old.o old.loaded)
  pub gives : IsWithin (updated_gives (update_gives InPlace old.o) (calls.update_null.answer old.o))
      (d.given old.source) (d.given new.source)
  pub leaves : LeavesDevice s d o e result old.source new.source outputs_old outputs_new

-- it runs calls on the object before
pub record ChangesCalls {D O E : Type 0} (s : SourceGhosts D) (d : DeviceGhosts D)
    (o : SinkGhosts O) (e : SinkGhosts E) (cs : List Call) (result : Result Bool Stop)
    (old new : State D) (outputs_old outputs_new : Outputs O E) : Type 0 where
  pub does : IsTrue old.told → (file : List ℕ) → s.holds old.source ≡ Some old.o.base →
      DoesInPlace s d o e (unbounded (updated_outcome InPlace cs file None old.o)) file old.o.base
      result old.source new.source outputs_old outputs_new
  pub asks : IsTrue old.told → OnOk result (s.taken new.source ≤ s.taken old.source
      + (homes_due old.o [] (read_by (stated_calls cs) old.o)
      + update_in_place_due (left_by (stated_calls cs) old.o) []))
  pub leaves : LeavesDevice s d o e result old.source new.source outputs_old outputs_new
