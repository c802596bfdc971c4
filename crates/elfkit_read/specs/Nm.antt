-- The command nm: the symbols of each file that it names.
use Rattle.std.specs.Prelude.{ℕ, List, not, ◌&&◌, length, nat_lt, codes}
use Rattle.elf_outside.specs.Names.{Map}
use Rattle.tool_output.specs.Outcomes.{Outcome}
use Rattle.nm_tool.specs.declared.options.NmOptions.{NmOptions}
use Rattle.tool_objects.specs.Looks.{looks_over}
use Rattle.nm_tool.specs.Tool.{nm_report}
use Rattle.elfkit_read.specs.Titles.{title_if, titled_report}
use Rattle.elfkit_read.specs.declared.titles.Title.{Title}
use Rattle.elfkit_read.specs.declared.titles.Title.TheVariants.{Name}
use Rattle.elfkit_read.specs.Objects.{objects_outcome}

-- The files in their order, each image under a title where more than one file is named, and each
-- member of an archive under its own; where each row has the file's name (-A) there are no titles.
unfoldable pub nm_outcome : NmOptions → List (List ℕ) → Map → Outcome
nm_outcome options names named =
    let report = λ (title : Title). titled_report title (nm_report options) in
    let many = nat_lt 1 (length names) in
    objects_outcome (codes "nm")
    (report (title_if (not options.name_each && many) Name))
    (report (title_if (not options.name_each) Name))
    (looks_over 0) names named
