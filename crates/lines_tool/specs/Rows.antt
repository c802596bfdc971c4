-- The lines of a line table: its units, their files and their rows (DWARF 4, 6.2).
use Rattle.std.specs.Prelude.{◌++◌, ℕ, List, [], Bool, codes, decimal, if◌then◌else◌}
use Rattle.elf_types.specs.Text.{hex}
use Rattle.line_table.specs.declared.faults.LineWhy.{LineWhy}
use Rattle.line_table.specs.declared.rows.Row.{Row}
use Rattle.line_table.specs.Texts.{cause_text}

-- the line before the units of a section, which all have one name
unfoldable pub line_table_title : ℕ → List ℕ
line_table_title section =
    codes "Line table of section " ++ decimal section ++ codes " [.debug_line]\n"

-- the line before a unit
unfoldable pub unit_title : ℕ → ℕ → List ℕ
unit_title at version =
    codes "  unit at " ++ decimal at ++ codes " version " ++ decimal version ++ codes "\n"

-- a file of a unit, by its number
unfoldable pub file_line : ℕ → List ℕ → List ℕ
file_line i name = codes "    file " ++ decimal i ++ codes " [" ++ name ++ codes "]\n"

-- a word where it holds
abbrev pub word_if : Bool → List ℕ → List ℕ
word_if holds word = if holds then word else []

-- where a row stands in the source
unfoldable pub row_place : Row → List ℕ
row_place r =
    codes " file " ++ decimal r.file
    ++ codes " line " ++ decimal r.line
    ++ codes " column " ++ decimal r.column

-- what is said of a row besides
unfoldable pub row_words : Row → List ℕ
row_words r = word_if r.stmt (codes " stmt") ++ word_if r.end (codes " end")

-- a row
unfoldable pub row_line : Row → List ℕ
row_line r = codes "    0x" ++ hex r.address ++ row_place r ++ row_words r ++ codes "\n"

-- why a section's units end before its bytes do
unfoldable pub fault_text : ℕ → LineWhy → List ℕ
fault_text at why = codes "bad line table at " ++ decimal at ++ codes ": " ++ cause_text why
