-- What becomes of the table that a program has made so far.
use Rattle.std.specs.Prelude.{◌++◌, ◌∷◌, [], ℕ, List, Bool, option_to_list, Result, Ok}
use Rattle.line_table.specs.declared.faults.LineWhy.{LineWhy}
use Rattle.line_table.specs.declared.operations.Operation.{Operation}
use Rattle.line_table.specs.declared.rows.Table.{Table}
use Rattle.elf_types.specs.Answers.{◌>>=◌}
use Rattle.line_table.specs.Reading.{Front}
use Rattle.line_table.specs.Header.{UnitHeader}
use Rattle.line_table.specs.Program.{operation_at}
use Rattle.line_table.specs.Rows.{effect, row_of, names_added}

-- with the row that the registers make
abbrev pub shown_in : Bool → Table → Table
shown_in end t = record t { rows = t.rows ++ row_of end t.registers ∷ [] }

-- with what an instruction does and adds
abbrev pub stepped : UnitHeader → Table → Operation → Result Table LineWhy
stepped u t operation = effect u t.registers operation >>= λ e. Ok (record {
  registers = e.registers;
  files = t.files ++ names_added operation;
  rows = t.rows ++ option_to_list e.row;
})

-- one turn of a program: the next instruction, and what it makes of the table
unfoldable pub turn : UnitHeader → Table → List ℕ → Front Table LineWhy
turn u t bytes = do
  operation ← operation_at u bytes
  table ← stepped u t operation.0
  Ok (table, operation.1)
