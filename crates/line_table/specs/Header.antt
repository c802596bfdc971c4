-- The header of a unit (DWARF 4, 6.2.4): its fields by their places, and why a unit is refused
-- before its program.
use Rattle.std.specs.Prelude.{ℕ, ◌+◌, ◌-◌, ◌^◌, ◌==◌, ◌||◌, Bool, not, List, [], ◌∷◌, length, take, drop, slice_index, Option, Some, None, Result, Ok, Err, if◌then◌else◌, nat_lt, nat_le}
use Rattle.std.specs.Int.{Width, w16, w32, byte_len}
use Rattle.elf_types.specs.declared.records.Class.{Class}
use Rattle.elf_types.specs.declared.records.Order.{Order}
use Rattle.line_table.specs.declared.faults.LineWhy.{LineWhy}
use Rattle.line_table.specs.declared.faults.LineWhy.TheVariants.{Cut, Form, Version, Ops, Header}
use Rattle.elf_types.specs.Answers.{refused_if, first_refusal, answered, ◌>>=◌}
use Rattle.line_table.specs.declared.header.TheConstants.{FIRST_RESERVED_LENGTH}
use Rattle.line_table.specs.Reading.{Front, number, byte_at, string_at, file_at, list_at}

-- the fields of a unit's header, with the class and the order of the image
pub record UnitHeader : Type 0 where
  pub class : Class
  pub order : Order
  pub version : ℕ
  pub header_length : ℕ
  pub minimum_instruction_length : ℕ
  pub default_is_stmt : Bool
  pub line_base : ℕ
  pub line_range : ℕ
  pub opcode_base : ℕ
  pub operand_counts : List ℕ

-- the number at a place of bytes, of which those that are not there count as 0
unfoldable pub field : Order → Width → ℕ → List ℕ → ℕ
field order w place bytes = number order w (take (byte_len w) (drop place bytes))

-- a signed byte, modulo 2 ^ 32, as lines are kept
abbrev pub signed_byte : ℕ → ℕ
signed_byte b = if nat_lt b 128 then b else (2 ^ 32 - 256) + b

-- unit_length, the first field of a unit, does not count itself: its four bytes stand before the
-- unit's body
unfoldable pub unit_length : Order → List ℕ → ℕ
unit_length order unit = field order w32 0 unit

-- what unit_length counts
unfoldable pub unit_body : Order → List ℕ → List ℕ
unit_body order unit = take (unit_length order unit) (drop 4 unit)

-- version 4 has a field more than the versions before it, maximum_operations_per_instruction
abbrev pub operations_len : ℕ → ℕ
operations_len version = if version == 4 then 1 else 0

-- maximum_operations_per_instruction, which is 1 before version 4, and what stands after it
abbrev pub operations_at : ℕ → List ℕ → Front ℕ LineWhy
operations_at version bytes = if version == 4 then byte_at bytes else Ok (1, bytes)

-- the same at its place in the unit's body
abbrev pub operations_of : ℕ → List ℕ → ℕ
operations_of version body = if version == 4 then slice_index body 7 else 1

-- The fields, by their places in the unit's body: version 0, header_length 2,
-- minimum_instruction_length 6, maximum_operations_per_instruction 7 in version 4 alone, and behind
-- it default_is_stmt, line_base, line_range, opcode_base and the operand counts,
-- standard_opcode_lengths
unfoldable pub unit_header : Class → Order → List ℕ → UnitHeader
unit_header class order body =
    let version = field order w16 0 body in
    let more = operations_len version in
    let opcode_base = slice_index body (10 + more) in
    record {
      class = class;
      order = order;
      version = version;
      header_length = field order w32 2 body;
      minimum_instruction_length = slice_index body 6;
      default_is_stmt = not (slice_index body (7 + more) == 0);
      line_base = signed_byte (slice_index body (8 + more));
      line_range = slice_index body (9 + more);
      opcode_base = opcode_base;
      operand_counts = take (opcode_base - 1) (drop (11 + more) body);
    }

-- the directories stand after the operand counts, of which there is one for each opcode from 1 up
-- to opcode_base
abbrev pub tables_of : UnitHeader → ℕ
tables_of u = 11 + operations_len u.version + (u.opcode_base - 1)

-- the program begins header_length bytes after that field
abbrev pub program_of : UnitHeader → ℕ
program_of u = 6 + u.header_length

-- unit_length passes the section, stands for another format, or counts more bytes than the section
-- has
unfoldable pub length_refusal : Order → List ℕ → Option LineWhy
length_refusal order unit =
    first_refusal (refused_if (nat_lt (length unit) 4) Cut
    ∷ refused_if (nat_le FIRST_RESERVED_LENGTH (unit_length order unit)) Form
    ∷ refused_if (nat_lt (length unit) (4 + unit_length order unit)) Cut
    ∷ [])

-- the body ends before its version, which is another, or before the end of its fields, of which the
-- operand counts are the last; or an instruction has more than one operation
unfoldable pub field_refusal : UnitHeader → List ℕ → Option LineWhy
field_refusal u body =
    first_refusal (refused_if (nat_lt (length body) 2) Cut
    ∷ refused_if (nat_lt u.version 2 || nat_lt 4 u.version) Version
    ∷ refused_if (nat_lt (length body) (tables_of u)) Cut
    ∷ refused_if (not (operations_of u.version body == 1)) Ops
    ∷ [])

-- opcode_base is 0, or the program begins past the unit's end, or the files end past the program's
-- begin
unfoldable pub program_refusal : UnitHeader → List ℕ → List ℕ → Option LineWhy
program_refusal u body after_files =
    first_refusal (refused_if (u.opcode_base == 0) Header
    ∷ refused_if (nat_lt (length body) (program_of u)) Header
    ∷ refused_if (nat_lt (program_of u) (length body - length after_files)) Header
    ∷ [])

-- an item of a list that an empty string ends
abbrev pub unless_empty : List ℕ → Option (List ℕ)
unless_empty [] = None
unless_empty (b ∷ text) = Some (b ∷ text)

-- the directories are strings, and an empty one is their end
unfoldable pub directory_at : List ℕ → Front (Option (List ℕ)) LineWhy
directory_at bytes = string_at bytes >>= λ text. Ok (unless_empty text.0, text.1)

-- a zero byte in the place of a file is the end of the files
unfoldable pub named_file_at : List ℕ → Front (Option (List ℕ)) LineWhy
named_file_at [] = Err Cut
named_file_at (b ∷ bytes) =
    if b == 0 then Ok (None, bytes) else file_at (b ∷ bytes) >>= λ file. Ok (Some file.0, file.1)

-- the names of the files, and what stands after them
unfoldable pub files_at : List ℕ → Front (List (List ℕ)) LineWhy
files_at bytes =
    (list_at named_file_at bytes).after >>= λ after. Ok ((list_at named_file_at bytes).items, after)

-- the names of the files, which stand behind the directories, and what stands after them; it is Cut
-- where a string or a file passes the unit
unfoldable pub tables_at : List ℕ → Front (List (List ℕ)) LineWhy
tables_at bytes = (list_at directory_at bytes).after >>= files_at

-- the body, unless its length is refused
unfoldable pub unit_body_at : Order → List ℕ → Result (List ℕ) LineWhy
unit_body_at order unit = answered (length_refusal order unit) (unit_body order unit)

-- the header and the tables behind it, unless its fields are refused
unfoldable pub unit_header_at : Class → Order → List ℕ → Front UnitHeader LineWhy
unit_header_at class order body =
    let u = unit_header class order body in
    answered (field_refusal u body) (u, drop (tables_of u) body)

-- the program, unless its place is refused
unfoldable pub program_at : UnitHeader → List ℕ → List ℕ → Result (List ℕ) LineWhy
program_at u body after_files =
    answered (program_refusal u body after_files) (drop (program_of u) body)

-- a unit before its program is executed
pub record OpenedUnit : Type 0 where
  pub header : UnitHeader
  pub files : List (List ℕ)
  pub program : List ℕ

-- the unit at the front of bytes, or the first cause for which it is refused before its program is
-- executed
unfoldable pub opened_unit : Class → Order → List ℕ → Result OpenedUnit LineWhy
opened_unit class order unit = do
  body ← unit_body_at order unit
  header ← unit_header_at class order body
  files ← tables_at header.1
  program ← program_at header.0 body files.1
  Ok (record { header = header.0; files = files.0; program = program })
