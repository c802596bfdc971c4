-- What the command size says of an object.
use Rattle.elf_object.specs.Object.{Object}
use Rattle.tool_output.specs.Names.{Name}
use Rattle.tool_output.specs.Reports.{Report, shown_report}
use Rattle.size_tool.specs.Sums.{sums_of, total_of}
use Rattle.size_tool.specs.Rows.{size_row}

-- one line, of all its sections, the first among them
unfoldable pub size_report : Name → Object → Report
size_report name o =
    let sums = sums_of o.sections in shown_report (size_row sums (total_of sums) name)
