use Rattle.section_data.proofs.Runs.{noted_more}
use Rattle.section_data.proofs.blocks.note_short.Goals as goal

pub returns : goal.returns
returns c =
    noted_more 16 c.args.short.now.items c.note.new.spans.items c.args.pieces.now c.args.block
    c.in-Some.span c.requires.short c.in-Some.ensures c.note.ensures
