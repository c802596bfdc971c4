-- What the blocks so far do to the end before them.
use Rattle.std.proofs.Common.{ℕ, ◌<◌, List}
use Rattle.elf_object.specs.Object.{Piece}
use Rattle.section_data.specs.Spans.{AreNoted}
use Rattle.section_data.proofs.Runs.{IsJoined}
use Rattle.section_data.proofs.blocks.joined_span.Given as goal

abbrev pub invariant-loop-part : goal.invariant-loop-part
invariant-loop-part l = (0 < l.span.align)
    × ((size : ℕ) (pieces : List Piece) → AreNoted size l.spans pieces
    → IsJoined size l.from l.part l.span pieces)
