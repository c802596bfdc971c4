-- The row of a symbol.
use Rattle.std.specs.Prelude.{◌++◌, ◌∷◌, [], ℕ, List, Bool, codes, if◌then◌else◌}
use Rattle.elf_types.specs.declared.records.Class.{Class}
use Rattle.elf_types.specs.declared.records.Class.TheVariants.{C32, C64}
use Rattle.elf_types.specs.declared.records.Sym.{Sym}
use Rattle.nm_tool.specs.declared.options.NmOptions.{NmOptions}
use Rattle.tool_text.specs.declared.radixes.Radix.{Radix}
use Rattle.tool_output.specs.Names.{Name, shown_name}
use Rattle.tool_output.specs.Columns.Columns.{radix_digits, spaces, zero_filled}

-- the file's name, where each row has it (-A)
unfoldable pub file_column : Bool → Name → List ℕ
file_column name_each file = if name_each then shown_name file ++ codes ": " else []

-- how many digits a value has at least
abbrev pub width_of : Class → ℕ
width_of C32 = 8
width_of C64 = 16

-- the value, or as many blanks where the symbol is undefined
unfoldable pub value_column : Radix → Class → Bool → ℕ → List ℕ
value_column radix class undefined value =
    if undefined then spaces (width_of class) else zero_filled radix (width_of class) value

-- ` VALUE SIZE`, which an undefined symbol does not have
unfoldable pub value_and_size : Radix → Bool → Sym → List ℕ
value_and_size radix undefined x =
    if undefined then []
    else codes " " ++ radix_digits radix x.value ++ codes " " ++ radix_digits radix x.size

-- `VALUE LETTER NAME`
unfoldable pub plain_row : Radix → Class → Bool → Sym → ℕ → List ℕ → List ℕ
plain_row radix class undefined x letter name =
    value_column radix class undefined x.value
    ++ codes " " ++ (letter ∷ []) ++ codes " " ++ name ++ codes "\n"

-- `NAME LETTER VALUE SIZE` (-P)
unfoldable pub portable_row : Radix → Bool → Sym → ℕ → List ℕ → List ℕ
portable_row radix undefined x letter name =
    name ++ codes " " ++ (letter ∷ []) ++ value_and_size radix undefined x ++ codes "\n"

unfoldable pub row_by : NmOptions → Class → Bool → Sym → ℕ → List ℕ → List ℕ
row_by options class undefined x letter name =
    if options.portable then portable_row options.radix undefined x letter name
    else plain_row options.radix class undefined x letter name

unfoldable pub row_text : NmOptions → Class → Name → Bool → Sym → ℕ → List ℕ → List ℕ
row_text options class file undefined x letter name =
    file_column options.name_each file ++ row_by options class undefined x letter name
