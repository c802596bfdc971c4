-- Words that a proof opens together. The value of the one that stands for them says nothing: what
-- counts is that a proof that unfolds it unfolds the others.
use Rattle.std.specs.Prelude.{Bool, true}
use Rattle.line_table.specs.Header.{unit_body_at, length_refusal, unit_length, unit_body, field}
use Rattle.line_table.specs.Program.{standard_at, standard_opcodes, address_in}
use Rattle.line_table.specs.Reading.{number_at, bytes_at, number}

-- a number
unfoldable pub numbers : Bool
unfolding number_at bytes_at number
numbers = true

-- the body of a unit, which its first field counts
unfoldable pub body : Bool
unfolding unit_body_at length_refusal unit_length unit_body field number_at bytes_at
body = true

-- a standard opcode
unfoldable pub standard : Bool
unfolding standard_at standard_opcodes
standard = true

-- an address
unfoldable pub address : Bool
unfolding address_in number_at bytes_at
address = true
