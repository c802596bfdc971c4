-- What the command lines says of an object.
use Rattle.std.specs.Prelude.{codes}
use Rattle.elf_object.specs.Object.{Object}
use Rattle.tool_output.specs.Names.{Name}
use Rattle.tool_output.specs.Reports.{Report, reports_of}
use Rattle.tool_objects.specs.Sections.{sections_named}
use Rattle.lines_tool.specs.Tables.{line_section_report}

-- the line table of each section named `.debug_line`, in the order of the sections
unfoldable pub lines_report : Name → Object → Report
lines_report name o =
    reports_of (line_section_report name o) (sections_named (codes ".debug_line") o)
