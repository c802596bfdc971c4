-- Lines of one field, and numbers with names.
use Rattle.std.specs.Prelude.{◌++◌, ℕ, List, Option, Some, None, codes, decimal}
use Rattle.elf_types.specs.Text.{hex}

-- a name, or in hexadecimal a number that has none
unfoldable pub name_or_hex : Option (List ℕ) → ℕ → List ℕ
name_or_hex (Some name) n = name
name_or_hex None n = codes "0x" ++ hex n

-- `  NAME: `
unfoldable pub field_title : List ℕ → List ℕ
field_title name = codes "  " ++ name ++ codes ": "

-- a line `  NAME: VALUE`
unfoldable pub field_line : List ℕ → List ℕ → List ℕ
field_line name value = field_title name ++ value ++ codes "\n"

-- its value is a decimal number
abbrev pub decimal_line : List ℕ → ℕ → List ℕ
decimal_line name n = field_line name (decimal n)

-- or a hexadecimal one
abbrev pub hex_line : List ℕ → ℕ → List ℕ
hex_line name n = field_line name (codes "0x" ++ hex n)

-- or a number by its name
abbrev pub name_line : List ℕ → Option (List ℕ) → ℕ → List ℕ
name_line title name n = field_line title (name_or_hex name n)

-- ---- The columns of a row

-- ` NAME 0xN`
unfoldable pub hex_column : List ℕ → ℕ → List ℕ
hex_column name n = codes " " ++ name ++ codes " 0x" ++ hex n

-- ` NAME N`
unfoldable pub decimal_column : List ℕ → ℕ → List ℕ
decimal_column name n = codes " " ++ name ++ codes " " ++ decimal n

-- ` TITLE NAME`, the name of a number or the number in hexadecimal
unfoldable pub name_column : List ℕ → Option (List ℕ) → ℕ → List ℕ
name_column title name n = codes " " ++ title ++ codes " " ++ name_or_hex name n

-- `  I`, with which a row begins
unfoldable pub row_start : ℕ → List ℕ
row_start i = codes "  " ++ decimal i

-- `TITLE N`, the title of a list of so many
unfoldable pub counted_line : List ℕ → ℕ → List ℕ
counted_line title count = title ++ decimal count ++ codes "\n"
