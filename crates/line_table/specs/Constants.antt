-- The numbers of the opcodes (DWARF 4, 7.21), and the first length that is reserved (7.4), each
-- name beside its number.
use Rattle.std.specs.Prelude.{ℕ, List, [], ◌∷◌}
use Rattle.line_table.specs.declared.header.TheConstants.{FIRST_RESERVED_LENGTH}
use Rattle.line_table.specs.declared.opcodes.TheConstants.{EXTENDED, DW_LNS_COPY, DW_LNS_ADVANCE_PC, DW_LNS_ADVANCE_LINE, DW_LNS_SET_FILE, DW_LNS_SET_COLUMN, DW_LNS_NEGATE_STMT, DW_LNS_SET_BASIC_BLOCK, DW_LNS_CONST_ADD_PC, DW_LNS_FIXED_ADVANCE_PC, DW_LNS_SET_PROLOGUE_END, DW_LNS_SET_EPILOGUE_BEGIN, DW_LNS_SET_ISA, DW_LNE_END_SEQUENCE, DW_LNE_SET_ADDRESS, DW_LNE_DEFINE_FILE}

abbrev pub standard_opcodes : List (ℕ × ℕ)
standard_opcodes =
    (EXTENDED, 0x00) ∷
    (DW_LNS_COPY, 0x01) ∷
    (DW_LNS_ADVANCE_PC, 0x02) ∷
    (DW_LNS_ADVANCE_LINE, 0x03) ∷
    (DW_LNS_SET_FILE, 0x04) ∷
    (DW_LNS_SET_COLUMN, 0x05) ∷
    (DW_LNS_NEGATE_STMT, 0x06) ∷
    (DW_LNS_SET_BASIC_BLOCK, 0x07) ∷
    (DW_LNS_CONST_ADD_PC, 0x08) ∷
    (DW_LNS_FIXED_ADVANCE_PC, 0x09) ∷
    (DW_LNS_SET_PROLOGUE_END, 0x0a) ∷
    (DW_LNS_SET_EPILOGUE_BEGIN, 0x0b) ∷
    (DW_LNS_SET_ISA, 0x0c) ∷ []

abbrev pub extended_opcodes : List (ℕ × ℕ)
extended_opcodes =
    (DW_LNE_END_SEQUENCE, 0x01) ∷
    (DW_LNE_SET_ADDRESS, 0x02) ∷
    (DW_LNE_DEFINE_FILE, 0x03) ∷ []

abbrev pub lengths : List (ℕ × ℕ)
lengths = (FIRST_RESERVED_LENGTH, 0xfffffff0) ∷ []
