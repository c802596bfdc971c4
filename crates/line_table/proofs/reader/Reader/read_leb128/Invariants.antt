use Rattle.std.proofs.Common.{◌≡◌, ◌≤◌, length}
use Rattle.line_table.specs.Reading.{leb128, leb128_at}
use Rattle.line_table.proofs.Digits.{raised}
use Rattle.line_table.proofs.reader.Reader.read_leb128.Given as goal

-- the number so far and the digits to come are the number
abbrev pub invariant-loop-byte : goal.invariant-loop-byte
invariant-loop-byte l =
    (raised l.number l.worth (leb128 l.signed l.self) ≡ leb128_at l.signed l.initial.self) × (length l.self ≤ length l.initial.self)

abbrev pub decreases-loop-byte : goal.decreases-loop-byte
decreases-loop-byte l = length l.self
