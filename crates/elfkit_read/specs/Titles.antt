-- The line before what is shown of an image.
use Rattle.std.specs.Prelude.{◌++◌, ℕ, List, Bool, codes, if◌then◌else◌}
use Rattle.elf_object.specs.Object.{Object}
use Rattle.tool_output.specs.Names.{Name, shown_name}
use Rattle.tool_output.specs.Reports.{Report, no_report, shown_report, joined_reports}
use Rattle.elfkit_read.specs.declared.titles.Title.{Title}
use Rattle.elfkit_read.specs.declared.titles.Title.TheVariants.{Untitled, File, Name as OfName}

-- `File: NAME`
unfoldable pub file_title : Name → List ℕ
file_title name = codes "File: " ++ shown_name name ++ codes "\n"

-- `NAME:`
unfoldable pub name_title : Name → List ℕ
name_title name = shown_name name ++ codes ":\n"

-- a title under a condition
abbrev pub title_if : Bool → Title → Title
title_if has_title title = if has_title then title else Untitled

-- the title of an image that has one
unfoldable pub title_report : Title → Name → Report
title_report Untitled name = no_report
title_report File name = shown_report (file_title name)
title_report OfName name = shown_report (name_title name)

-- a report behind its title
unfoldable pub titled_report : Title → (Name → Object → Report) → Name → Object → Report
titled_report title report name o = joined_reports (title_report title name) (report name o)
