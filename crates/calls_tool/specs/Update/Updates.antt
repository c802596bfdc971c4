-- The update that follows the calls of a script: with -o the image that they leave is written to a
-- new file, with -i into FILE in place; where the update is refused, none is.
use Rattle.std.specs.Prelude.{ℕ, true, List, [], ◌∷◌, codes, Option, Some, None, Result, Ok, Err}
use Rattle.elf_types.specs.declared.errors.ElfError.{ElfError}
use Rattle.elf_types.specs.Text.{error_text}
use Rattle.elf_object.specs.Object.{Object}
use Rattle.elf_object.specs.Calls as calls
use Rattle.elf_object.specs.Runs.{left_by}
use Rattle.elf_object.specs.Image.{image}
use Rattle.elf_object.specs.Due.{update_to_due, update_in_place_due}
use Rattle.elf_object.specs.Changed.{changed_bytes}
use Rattle.calls_tool.specs.declared.update.outputs.CallsOutput.{CallsOutput}
use Rattle.calls_tool.specs.declared.update.outputs.CallsOutput.TheVariants.{To, InPlace}
use Rattle.tool_output.specs.Names.{file_name}
use Rattle.tool_output.specs.Statuses.{refused_status}
use Rattle.tool_output.specs.Reports.{joined_reports, refusal_report}
use Rattle.tool_output.specs.Files.{both_bounds}
use Rattle.tool_output.specs.Outcomes.{FileWrite, Outcome, report_outcome}
use Rattle.tool_output.specs.Made.{made_file}
use Rattle.elf_calls_script.specs.declared.calls.Call.{Call}
use Rattle.calls_tool.specs.Runs.{stated_calls, calls_report, update_report}

-- where the image goes: into a file that is made, or into FILE in place
abbrev pub write_by : CallsOutput → List ℕ → List ℕ → FileWrite
write_by (To out) file bytes = made_file out bytes
write_by InPlace file bytes = record { name = file; bytes = bytes; in_place = true }

-- how many bytes the update asks for at most, of an object of which nothing is loaded
abbrev pub update_asks : CallsOutput → Object → ℕ
update_asks (To out) o = update_to_due o []
update_asks InPlace o = update_in_place_due o []

-- and how many it hands to writes at most: no bound is promised for a file that is made
abbrev pub update_gives : CallsOutput → Object → Option ℕ
update_gives (To out) o = None
update_gives InPlace o = Some (changed_bytes o)

-- by what the update answers: a refused one writes nothing
abbrev pub updated_writes : FileWrite → Result ℕ ElfError → List FileWrite
updated_writes write (Ok n) = write ∷ []
updated_writes write (Err e) = []

abbrev pub updated_gives : Option ℕ → Result ℕ ElfError → Option ℕ
updated_gives bound (Ok n) = bound
updated_gives bound (Err e) = Some 0

-- the lines of the calls on the object of FILE, and of its update; `asked` is what is asked for
-- before the update
unfoldable pub updated_outcome : CallsOutput → List Call → List ℕ → Option ℕ → Object → Outcome
updated_outcome output cs file asked o =
    let left = left_by (stated_calls cs) o in
    let answer = calls.update_null.answer left in
    let report = joined_reports (calls_report cs o) (update_report answer) in
    record {
      marks = report.marks;
      status = refused_status report.refused;
      writes = updated_writes (write_by output file (image left)) answer;
      asks = both_bounds asked (Some (update_asks output left));
      gives = updated_gives (update_gives output left) answer;
    }

-- by the object of FILE: what is no image has the message that says why, and nothing is written
abbrev pub updated_by : CallsOutput → List Call → List ℕ → Option ℕ → Result Object ElfError
    → Outcome
updated_by output cs file asked (Ok o) = updated_outcome output cs file asked o
updated_by output cs file asked (Err e) =
    report_outcome (refusal_report (codes "calls") (file_name file) (error_text e)) asked
