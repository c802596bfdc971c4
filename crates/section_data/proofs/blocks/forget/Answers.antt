use Rattle.std.proofs.Common.{arith}
use Rattle.section_data.proofs.Runs.{forgotten, untouched}
use Rattle.section_data.proofs.blocks.forget.Goals as goal

pub returns-then-len-block : goal.returns-then-len-block
returns-then-len-block c = λ i s found.
    untouched c.args.spans.now.items c.args.block i s
    (omega (arith, c.if-len-block.true, c.len.ensures, c.args.spans.now.ok.0)) found

pub returns : goal.returns
returns c = λ i s found.
    forgotten c.args.spans.now.items c.args.block i s
    (omega (arith, c.if-len-block.false, c.len.ensures, c.args.spans.now.ok.0)) found
