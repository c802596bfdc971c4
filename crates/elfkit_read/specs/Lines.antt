-- The command lines: the line tables of each file that it names.
use Rattle.std.specs.Prelude.{ℕ, List, codes}
use Rattle.elf_outside.specs.Names.{Map}
use Rattle.tool_output.specs.Outcomes.{Outcome}
use Rattle.tool_objects.specs.Looks.{looks_over}
use Rattle.lines_tool.specs.Tool.{lines_report}
use Rattle.elfkit_read.specs.Objects.{objects_outcome}

-- the files in their order, and the members of one that is an archive
unfoldable pub lines_outcome : List (List ℕ) → Map → Outcome
lines_outcome names named =
    objects_outcome (codes "lines") lines_report lines_report (looks_over 1) names named
