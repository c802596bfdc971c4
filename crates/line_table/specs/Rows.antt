-- The fold of a line number program (DWARF 4, 6.2.2 and 6.2.5): what each instruction does to the
-- registers, and the rows of the table.
use Rattle.std.specs.Prelude.{ℕ, ◌+◌, ◌-◌, ◌*◌, ◌/◌, ◌%◌, ◌^◌, ◌==◌, Bool, true, false, not, List, [], ◌∷◌, ◌++◌, Option, Some, None, option_to_list, Result, Ok, Err, if◌then◌else◌}
use Rattle.line_table.specs.declared.faults.LineWhy.{LineWhy}
use Rattle.line_table.specs.declared.faults.LineWhy.TheVariants.{Range}
use Rattle.line_table.specs.declared.faults.LineFault.{LineFault}
use Rattle.line_table.specs.declared.operations.Operation.{Operation}
use Rattle.line_table.specs.declared.operations.Operation.TheVariants.{Special, Copy, AdvancePc, AdvanceLine, SetFile, SetColumn, NegateStmt, ConstAddPc, FixedAdvancePc, EndSequence, SetAddress, DefineFile, Nothing}
use Rattle.line_table.specs.declared.rows.Registers.{Registers}
use Rattle.line_table.specs.declared.rows.Row.{Row}
use Rattle.elf_types.specs.Answers.{◌>>=◌}
use Rattle.line_table.specs.Header.{UnitHeader}
use Rattle.line_table.specs.Program.{Instruction, blamed}

-- the registers with which a program and each sequence start
abbrev pub start : UnitHeader → Registers
start u = record { address = 0; file = 1; line = 1; column = 0; stmt = u.default_is_stmt }

-- further in addresses, by a count of instructions of the least length; addresses are kept modulo 2
-- ^ 64
abbrev pub advanced : UnitHeader → ℕ → Registers → Registers
advanced u n r = record r { address = (r.address + u.minimum_instruction_length * n) % 2 ^ 64 }

-- further in lines, which are kept modulo 2 ^ 32
abbrev pub moved : ℕ → Registers → Registers
moved n r = record r { line = (r.line + n) % 2 ^ 32 }

-- further in addresses, by a number of bytes
abbrev pub fixed_advanced : ℕ → Registers → Registers
fixed_advanced bytes r = record r { address = (r.address + bytes) % 2 ^ 64 }

-- a special opcode (DWARF 4, 6.2.5.1), less opcode_base
abbrev pub advanced_special : UnitHeader → ℕ → Registers → Registers
advanced_special u a r = advanced u (a / u.line_range) (moved (u.line_base + a % u.line_range) r)

-- the addresses alone of the special opcode 255
abbrev pub const_added : UnitHeader → Registers → Registers
const_added u r = advanced u ((255 - u.opcode_base) / u.line_range) r

-- where line_range is 0, nothing can be divided by it
abbrev pub ranged : {A : Type 0} → UnitHeader → A → Result A LineWhy
ranged u x = if u.line_range == 0 then Err Range else Ok x

-- the row that the registers make
abbrev pub row_of : Bool → Registers → Row
row_of end r = record {
  address = r.address;
  file = r.file;
  line = r.line;
  column = r.column;
  stmt = r.stmt;
  end = end;
}

-- what an instruction does: the registers after it, and its row
pub record Effect : Type 0 where
  pub registers : Registers
  pub row : Option Row

-- an effect without a row
abbrev pub silent : Registers → Effect
silent r = record { registers = r; row = None }

-- an effect with the row of the registers after it
abbrev pub shown : Registers → Effect
shown r = record { registers = r; row = Some (row_of false r) }

-- the effect of each instruction
unfoldable pub effect : UnitHeader → Registers → Operation → Result Effect LineWhy
effect u r (Special a) = ranged u (shown (advanced_special u a r))
effect u r Copy = Ok (shown r)
effect u r (AdvancePc n) = Ok (silent (advanced u n r))
effect u r (AdvanceLine n) = Ok (silent (moved n r))
effect u r (SetFile n) = Ok (silent (record r { file = n }))
effect u r (SetColumn n) = Ok (silent (record r { column = n }))
effect u r NegateStmt = Ok (silent (record r { stmt = not r.stmt }))
effect u r ConstAddPc = ranged u (silent (const_added u r))
effect u r (FixedAdvancePc n) = Ok (silent (fixed_advanced n r))
effect u r EndSequence = Ok (record { registers = start u; row = Some (row_of true r) })
effect u r (SetAddress n) = Ok (silent (record r { address = n }))
effect u r (DefineFile name) = Ok (silent r)
effect u r Nothing = Ok (silent r)

-- the rows of instructions, from registers on, or the first place at which one has no effect
abbrev pub rows_from : UnitHeader → Registers → List Instruction → Result (List Row) LineFault
rows_from u r [] = Ok []
rows_from u r (i ∷ instructions) = do
  e ← blamed i.place (effect u r i.operation)
  later ← rows_from u e.registers instructions
  Ok (option_to_list e.row ++ later)

-- the rows of a program's instructions
unfoldable pub rows : UnitHeader → List Instruction → Result (List Row) LineFault
rows u instructions = rows_from u (start u) instructions

-- the name of the file that an instruction adds
abbrev pub names_added : Operation → List (List ℕ)
names_added (DefineFile name) = name ∷ []
names_added _ = []

-- the names of the files that instructions add, in order
abbrev pub all_names_added : List Instruction → List (List ℕ)
all_names_added [] = []
all_names_added (i ∷ instructions) = names_added i.operation ++ all_names_added instructions
