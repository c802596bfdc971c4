-- The grammar of a line number program (DWARF 4, 6.2.5): its instructions, each with its place and
-- its operand.
use Rattle.std.specs.Prelude.{ℕ, zero, suc, ◌+◌, ◌-◌, ◌==◌, true, false, List, [], ◌∷◌, length, slice_index, Option, Some, None, Result, Ok, Err, if◌then◌else◌, nat_le}
use Rattle.std.specs.Int.{Width, w16, w32, w64, byte_len}
use Rattle.elf_types.specs.declared.records.Class.{Class}
use Rattle.elf_types.specs.declared.records.Class.TheVariants.{C32, C64}
use Rattle.line_table.specs.declared.faults.LineWhy.{LineWhy}
use Rattle.line_table.specs.declared.faults.LineWhy.TheVariants.{Address}
use Rattle.line_table.specs.declared.faults.LineFault.{LineFault}
use Rattle.line_table.specs.declared.faults.LineFault.TheVariants.{Bad}
use Rattle.line_table.specs.declared.operations.Operation.{Operation}
use Rattle.line_table.specs.declared.operations.Operation.TheVariants.{Special, Copy, AdvancePc, AdvanceLine, SetFile, SetColumn, NegateStmt, ConstAddPc, FixedAdvancePc, EndSequence, SetAddress, DefineFile, Nothing}
use Rattle.elf_types.specs.Answers.{◌>>=◌}
use Rattle.line_table.specs.Reading.{Front, byte_at, bytes_at, number, number_at, leb128_at, file_at, Listed, list_at}
use Rattle.line_table.specs.declared.opcodes.TheConstants.{EXTENDED, DW_LNS_COPY, DW_LNS_ADVANCE_PC, DW_LNS_ADVANCE_LINE, DW_LNS_SET_FILE, DW_LNS_SET_COLUMN, DW_LNS_NEGATE_STMT, DW_LNS_SET_BASIC_BLOCK, DW_LNS_CONST_ADD_PC, DW_LNS_FIXED_ADVANCE_PC, DW_LNS_SET_PROLOGUE_END, DW_LNS_SET_EPILOGUE_BEGIN, DW_LNS_SET_ISA, DW_LNE_END_SEQUENCE, DW_LNE_SET_ADDRESS, DW_LNE_DEFINE_FILE}
use Rattle.line_table.specs.Header.{UnitHeader}

-- the operand of a standard opcode, and what it makes of the instruction
pub data Operand : Type 0 where
  none : Operation → Operand
  unsigned : (ℕ → Operation) → Operand
  signed : (ℕ → Operation) → Operand
  half : (ℕ → Operation) → Operand

-- the standard opcodes (DWARF 4, 6.2.5.2); basic blocks, prologues, epilogues and instruction sets
-- are in no row of the table
unfoldable pub standard_opcodes : List (ℕ × Operand)
standard_opcodes =
    (DW_LNS_COPY, none Copy) ∷
    (DW_LNS_ADVANCE_PC, unsigned AdvancePc) ∷
    (DW_LNS_ADVANCE_LINE, signed AdvanceLine) ∷
    (DW_LNS_SET_FILE, unsigned SetFile) ∷
    (DW_LNS_SET_COLUMN, unsigned SetColumn) ∷
    (DW_LNS_NEGATE_STMT, none NegateStmt) ∷
    (DW_LNS_SET_BASIC_BLOCK, none Nothing) ∷
    (DW_LNS_CONST_ADD_PC, none ConstAddPc) ∷
    (DW_LNS_FIXED_ADVANCE_PC, half FixedAdvancePc) ∷
    (DW_LNS_SET_PROLOGUE_END, none Nothing) ∷
    (DW_LNS_SET_EPILOGUE_BEGIN, none Nothing) ∷
    (DW_LNS_SET_ISA, unsigned (λ _. Nothing)) ∷ []

-- the first row for an opcode
abbrev pub operand_of : List (ℕ × Operand) → ℕ → Option Operand
operand_of [] opcode = None
operand_of (row ∷ rows) opcode = if row.0 == opcode then Some row.1 else operand_of rows opcode

-- what stands after as many unsigned numbers
abbrev pub passed : ℕ → List ℕ → Result (List ℕ) LineWhy
passed zero bytes = Ok bytes
passed (suc n) bytes = leb128_at false bytes >>= λ operand. passed n operand.1

-- an opcode that is not in the table has as many operands as the header counts for it
abbrev pub operation_with : UnitHeader → ℕ → Option Operand → List ℕ → Front Operation LineWhy
operation_with u opcode None bytes =
    passed (slice_index u.operand_counts (opcode - 1)) bytes >>= λ rest. Ok (Nothing, rest)
operation_with u opcode (Some (none o)) bytes = Ok (o, bytes)
operation_with u opcode (Some (unsigned o)) bytes = leb128_at false bytes >>= λ n. Ok (o n.0, n.1)
operation_with u opcode (Some (signed o)) bytes = leb128_at true bytes >>= λ n. Ok (o n.0, n.1)
operation_with u opcode (Some (half o)) bytes = number_at u.order w16 bytes >>= λ n. Ok (o n.0, n.1)

-- the instruction of a standard opcode, which stands before these bytes
unfoldable pub standard_at : UnitHeader → ℕ → List ℕ → Front Operation LineWhy
standard_at u opcode bytes = operation_with u opcode (operand_of standard_opcodes opcode) bytes

-- how wide an address is
abbrev pub address_width : Class → Width
address_width C32 = w32
address_width C64 = w64

-- an address, which is all of the bytes
unfoldable pub address_in : UnitHeader → List ℕ → Result ℕ LineWhy
address_in u bytes =
    let width = address_width u.class in
    if length bytes == byte_len width then Ok (number u.order width bytes) else Err Address

-- the instruction of an extended opcode (DWARF 4, 6.2.5.3), which stands before these bytes
abbrev pub extended_by : UnitHeader → ℕ → List ℕ → Result Operation LineWhy
extended_by u opcode bytes =
    if opcode == DW_LNE_END_SEQUENCE then Ok EndSequence
    else if opcode == DW_LNE_SET_ADDRESS then (address_in u bytes >>= λ n. Ok (SetAddress n))
    else if opcode == DW_LNE_DEFINE_FILE then (file_at bytes >>= λ file. Ok (DefineFile file.0))
    else Ok Nothing

-- the instruction in these bytes
unfoldable pub extended_in : UnitHeader → List ℕ → Result Operation LineWhy
extended_in u bytes = byte_at bytes >>= λ opcode. extended_by u opcode.0 opcode.1

-- the instruction behind the 0 of an extended opcode: a count of bytes, and these bytes
unfoldable pub extended_at : UnitHeader → List ℕ → Front Operation LineWhy
extended_at u bytes = do
  size ← leb128_at false bytes
  inside ← bytes_at size.0 size.1
  operation ← extended_in u inside.0
  Ok (operation, inside.1)

-- an instruction: an opcode from opcode_base on is a special one, which is adjusted by opcode_base;
-- 0 is an extended one, and the others are standard ones
unfoldable pub operation_at : UnitHeader → List ℕ → Front Operation LineWhy
operation_at u bytes = do
  opcode ← byte_at bytes
  if nat_le u.opcode_base opcode.0 then Ok (Special (opcode.0 - u.opcode_base), opcode.1) else
      (if opcode.0 == EXTENDED then extended_at u opcode.1 else standard_at u opcode.0 opcode.1)

-- an instruction, and the place of its opcode in the section
pub record Instruction : Type 0 where
  pub place : ℕ
  pub operation : Operation

-- a cause, and the place at which it refuses
abbrev pub blamed : {A : Type 0} → ℕ → Result A LineWhy → Result A LineFault
blamed at (Ok x) = Ok x
blamed at (Err why) = Err (Bad at why)

-- an instruction's place is that of its first byte: where the program ends, less what is left of it
unfoldable pub instruction_at : UnitHeader → ℕ → List ℕ → Front (Option Instruction) LineFault
instruction_at u end [] = Ok (None, [])
instruction_at u end (b ∷ bytes) = do
  operation ← blamed (end - length (b ∷ bytes)) (operation_at u (b ∷ bytes))
  Ok (Some (record { place = end - length (b ∷ bytes); operation = operation.0 }), operation.1)

-- the instructions of a program, which begins at a place of the section, up to its end or to the
-- first that is refused
unfoldable pub ops : UnitHeader → ℕ → List ℕ → Listed Instruction LineFault
ops u at program = list_at (instruction_at u (at + length program)) program
