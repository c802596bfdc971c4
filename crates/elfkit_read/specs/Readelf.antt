-- The command readelf: the parts of each file that it names.
use Rattle.std.specs.Prelude.{ℕ, List, length, nat_lt, codes}
use Rattle.elf_outside.specs.Names.{Map}
use Rattle.tool_output.specs.Outcomes.{Outcome}
use Rattle.readelf_tool.specs.declared.options.ReadelfParts.{ReadelfParts}
use Rattle.readelf_tool.specs.Parts.{readelf_report, readelf_looks}
use Rattle.elfkit_read.specs.Titles.{title_if, titled_report}
use Rattle.elfkit_read.specs.declared.titles.Title.{Title}
use Rattle.elfkit_read.specs.declared.titles.Title.TheVariants.{File}
use Rattle.elfkit_read.specs.Objects.{objects_outcome}

-- the files in their order, each image under a title where more than one file is named, and each
-- member of an archive under its own
unfoldable pub readelf_outcome : ReadelfParts → List (List ℕ) → Map → Outcome
readelf_outcome parts names named =
    let report = λ (title : Title). titled_report title (readelf_report parts) in
    let many = nat_lt 1 (length names) in
    objects_outcome (codes "readelf") (report (title_if many File)) (report File)
    (readelf_looks parts) names named
