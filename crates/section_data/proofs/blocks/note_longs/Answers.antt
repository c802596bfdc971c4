use Rattle.section_data.proofs.blocks.note_longs.Goals as goal

pub loop-block-init : goal.loop-block-init
loop-block-init c = record {
  shorts = c.requires.short;
  middles = c.requires.middle;
  longs = c.requires.long;
}

pub note_long-requires-clause-short : goal.note_long-requires-clause-short
note_long-requires-clause-short c = c.loop-block.invariant.shorts

pub note_long-requires-clause-middle : goal.note_long-requires-clause-middle
note_long-requires-clause-middle c = c.loop-block.invariant.middles

pub note_long-requires-clause-long : goal.note_long-requires-clause-long
note_long-requires-clause-long c = c.loop-block.invariant.longs

pub loop-block-preserved : goal.loop-block-preserved
loop-block-preserved c = record {
  shorts = c.note_long.ensures.short;
  middles = c.note_long.ensures.middle;
  longs = c.note_long.ensures.long;
}

pub returns-clause-short : goal.returns-clause-short
returns-clause-short c = c.loop-block.invariant.shorts

pub returns-clause-middle : goal.returns-clause-middle
returns-clause-middle c = c.loop-block.invariant.middles

pub returns-clause-long : goal.returns-clause-long
returns-clause-long c = c.loop-block.invariant.longs
