-- What definitions see of the code's structs.
use Rattle.std.specs.Prelude.{ℕ, ◌≡◌, ◌+◌, ◌≤◌, length}
use Rattle.line_table.specs.declared.header.Header.{Header}
use Rattle.line_table.specs.declared.opening.Opened.{Opened}
use Rattle.line_table.specs.Header.{UnitHeader, OpenedUnit, program_of}

-- the fields of a header
abbrev pub seen : Header → UnitHeader
seen h = record {
  class = h.class;
  order = h.order;
  version = h.version;
  header_length = h.header_length;
  minimum_instruction_length = h.minimum_instruction_length;
  default_is_stmt = h.default_is_stmt;
  line_base = h.line_base;
  line_range = h.line_range;
  opcode_base = h.opcode_base;
  operand_counts = h.operand_counts.now;
}

-- a unit before its program is executed
abbrev pub seen_opened : Opened → OpenedUnit
seen_opened o = record { header = seen o.header; files = o.files; program = o.program.now }

-- the size of a unit is that of unit_length and of what it counts, of which the program is the end
pub record IsPlaced (o : Opened) (unit_length room : ℕ) : Type 0 where
  pub size : o.size ≡ 4 + unit_length
  pub within : o.size ≤ room
  pub program : 4 + program_of (seen o.header) + length o.program.now ≡ o.size
