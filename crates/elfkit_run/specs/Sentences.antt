-- The lines that the program writes of its own.
use Rattle.std.specs.Prelude.{◌++◌, ℕ, List, codes}
use Rattle.tool_output.specs.declared.outputs.Side.TheVariants.{Error}
use Rattle.tool_output.specs.Marks.{said}
use Rattle.tool_output.specs.Outcomes.{Outcome, only_says}

-- a text on a line of its own
unfoldable pub text_line_of : List ℕ → List ℕ
text_line_of text = text ++ codes "\n"

-- a line on standard error and a status
unfoldable pub says : List ℕ → ℕ → Outcome
says text status = only_says (said Error (text_line_of text)) status
