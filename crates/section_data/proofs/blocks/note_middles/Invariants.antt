-- What is noted so far.
use Rattle.section_data.specs.Spans.{AreNoted}
use Rattle.section_data.proofs.blocks.note_middles.Given as goal

abbrev pub invariant-loop-block : goal.invariant-loop-block
invariant-loop-block l =
    AreNoted 16 l.short.items l.pieces × AreNoted 512 l.middle.items l.pieces
