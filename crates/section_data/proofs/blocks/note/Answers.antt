use Rattle.std.proofs.Common.{inl, arith}
use Rattle.section_data.proofs.Runs.{noted_set, noted_tried}
use Rattle.section_data.proofs.blocks.note.Goals as goal

pub returns-then-block-len : goal.returns-then-block-len
returns-then-block-len c = λ i s found.
    noted_set c.args.spans.now.items c.args.block i c.args.span s
    (omega (arith, c.if-block-len.true, c.len.ensures, c.args.spans.now.ok.0)) found

pub returns-then-len-block : goal.returns-then-len-block
returns-then-len-block c = λ i s found. inl found

pub returns : goal.returns
returns c = λ i s found.
    let long = c.len-2.ensures in
    let room = c.args.spans.now.ok.0 in
    noted_tried c.push-noted.result c.args.spans.now.items c.push-noted.new.self.items
    c.args.block i c.args.span s
    (omega (arith, c.if-block-len.false, c.if-len-block.false, c.len.ensures, long, room))
    c.push-noted.ensures.items found
