-- A command that speaks of the objects of files.
use Rattle.std.specs.Prelude.{ℕ, List, Some, map}
use Rattle.elf_outside.specs.Names.{Map}
use Rattle.elf_object.specs.Object.{Object}
use Rattle.tool_output.specs.Names.{Name}
use Rattle.tool_output.specs.Files.{report_on, asks_on, all_bounds}
use Rattle.tool_output.specs.Outcomes.{Outcome, report_outcome}
use Rattle.tool_output.specs.Reports.{Report, reports_of}
use Rattle.tool_objects.specs.Looks.{SectionLooks}
use Rattle.tool_objects.specs.Images.{image_report, image_asks}
use Rattle.tool_objects.specs.Archives.{archive_report, archive_asks}
use Rattle.tool_objects.specs.Files.{file_report, file_asks}

-- the report on a file's bytes of a command that says this of the object of a file, and this of the
-- object of a member
unfoldable pub object_file_report : List ℕ → (Name → Object → Report) → (Name → Object → Report)
    → Name → List ℕ → Report
object_file_report command report member_report =
    file_report (image_report command report) (archive_report command member_report)

-- how many bytes it asks a file for at most; one that reads no sections asks for none of them, and
-- one that does for each home once, and where homes overlap once more for each pass over them
unfoldable pub object_file_asks : SectionLooks → List ℕ → ℕ
object_file_asks looks = file_asks (image_asks looks) (archive_asks looks)

-- the files in their order
unfoldable pub objects_outcome : List ℕ → (Name → Object → Report) → (Name → Object → Report)
    → SectionLooks → List (List ℕ) → Map → Outcome
objects_outcome command report member_report looks names named =
    report_outcome
    (reports_of (report_on command (object_file_report command report member_report) named) names)
    (all_bounds (map (asks_on (λ bytes. Some (object_file_asks looks bytes)) named) names))
