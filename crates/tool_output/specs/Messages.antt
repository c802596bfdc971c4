-- The line in which a tool says what is wrong with a file.
use Rattle.std.specs.Prelude.{◌++◌, List, ℕ, codes, decimal}
use Rattle.tool_output.specs.Names.{Name, shown_name}

-- a message: the command, the file and what is wrong with it, on a line of their own
unfoldable pub message : List ℕ → Name → List ℕ → List ℕ
message command name text =
    command ++ codes ": " ++ shown_name name ++ codes ": " ++ text ++ codes "\n"

-- a text on a section: `section S: TEXT`
unfoldable pub section_message : ℕ → List ℕ → List ℕ
section_message section text = codes "section " ++ decimal section ++ codes ": " ++ text
