-- The command strings: the printable runs of each file that it names.
use Rattle.std.specs.Prelude.{ℕ, List, Some, map, codes}
use Rattle.elf_outside.specs.Names.{Map}
use Rattle.strings_tool.specs.declared.options.StringsOptions.{StringsOptions}
use Rattle.tool_output.specs.Files.{report_on, asks_on, all_bounds}
use Rattle.tool_output.specs.Outcomes.{Outcome, report_outcome}
use Rattle.tool_output.specs.Reports.{reports_of}
use Rattle.strings_tool.specs.Tool.{strings_report, strings_asks}

-- the files in their order; an archive is read as any other file
unfoldable pub strings_outcome : StringsOptions → List (List ℕ) → Map → Outcome
strings_outcome options names named =
    report_outcome
    (reports_of (report_on (codes "strings") (strings_report options) named) names)
    (all_bounds (map (asks_on (λ bytes. Some (strings_asks options bytes)) named) names))
