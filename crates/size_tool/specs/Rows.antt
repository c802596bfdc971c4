-- The lines of size.
use Rattle.std.specs.Prelude.{◌++◌, ℕ, List, codes}
use Rattle.tool_text.specs.declared.radixes.Radix.{Radix}
use Rattle.tool_text.specs.declared.radixes.Radix.TheVariants.{Decimal, Hex}
use Rattle.tool_output.specs.Names.{Name, name_ex}
use Rattle.tool_output.specs.Columns.Columns.{column}
use Rattle.size_tool.specs.declared.sums.Sums.{Sums}

-- the first line
unfoldable pub size_title : List ℕ
size_title = codes "   text\t   data\t    bss\t    dec\t    hex\tfilename\n"

-- a number in its column, and the tab behind it
unfoldable pub cell : Radix → ℕ → List ℕ
cell radix n = column radix n ++ codes "\t"

-- the three sums
unfoldable pub sum_cells : Sums → List ℕ
sum_cells sums = cell Decimal sums.text ++ cell Decimal sums.«data» ++ cell Decimal sums.bss

-- their sum in decimal and in hexadecimal
unfoldable pub total_cells : ℕ → List ℕ
total_cells total = cell Decimal total ++ cell Hex total

-- the line of an object
unfoldable pub size_row : Sums → ℕ → Name → List ℕ
size_row sums total name = sum_cells sums ++ total_cells total ++ name_ex name ++ codes "\n"
