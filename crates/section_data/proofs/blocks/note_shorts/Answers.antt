use Rattle.section_data.proofs.blocks.note_shorts.Goals as goal

pub loop-block-init : goal.loop-block-init
loop-block-init c = c.requires.short

pub note_short-requires-clause-short : goal.note_short-requires-clause-short
note_short-requires-clause-short c = c.loop-block.invariant

pub loop-block-preserved : goal.loop-block-preserved
loop-block-preserved c = c.note_short.ensures
