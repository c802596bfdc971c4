use Rattle.section_data.proofs.blocks.note_middles.Goals as goal

pub loop-block-init : goal.loop-block-init
loop-block-init c = (c.requires.short, c.requires.middle)

pub note_middle-requires-clause-short : goal.note_middle-requires-clause-short
note_middle-requires-clause-short c = c.loop-block.invariant.0

pub note_middle-requires-clause-middle : goal.note_middle-requires-clause-middle
note_middle-requires-clause-middle c = c.loop-block.invariant.1

pub loop-block-preserved : goal.loop-block-preserved
loop-block-preserved c = (c.note_middle.ensures.short, c.note_middle.ensures.middle)

pub returns-clause-short : goal.returns-clause-short
returns-clause-short c = c.loop-block.invariant.0

pub returns-clause-middle : goal.returns-clause-middle
returns-clause-middle c = c.loop-block.invariant.1
