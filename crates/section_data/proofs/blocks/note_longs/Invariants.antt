-- What is noted so far.
use Rattle.section_data.specs.Spans.{AreAllNoted}
use Rattle.section_data.proofs.blocks.note_longs.Given as goal

abbrev pub invariant-loop-block : goal.invariant-loop-block
invariant-loop-block l = AreAllNoted l.short.items l.middle.items l.long.items l.pieces
