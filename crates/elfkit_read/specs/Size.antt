-- The command size: how much memory the sections of each object take.
use Rattle.std.specs.Prelude.{◌++◌, ℕ, List, codes}
use Rattle.elf_outside.specs.Names.{Map}
use Rattle.tool_output.specs.declared.outputs.Side.TheVariants.{Out}
use Rattle.tool_output.specs.Marks.{said}
use Rattle.tool_output.specs.Outcomes.{Outcome}
use Rattle.tool_objects.specs.Looks.{no_look}
use Rattle.size_tool.specs.Rows.{size_title}
use Rattle.size_tool.specs.Tool.{size_report}
use Rattle.elfkit_read.specs.Objects.{objects_outcome}

-- an outcome behind a text on standard output
unfoldable pub outcome_behind_text : List ℕ → Outcome → Outcome
outcome_behind_text text stated = record stated { marks = said Out text ++ stated.marks }

-- a line for each object of the files in their order, and of the members of one that is an archive;
-- before them, whatever the files are, the title
unfoldable pub size_outcome : List (List ℕ) → Map → Outcome
size_outcome names named =
    outcome_behind_text size_title
    (objects_outcome (codes "size") size_report size_report no_look names named)
