use Rattle.std.proofs.Common.{◌+◌, ◌*◌, arith, refl}
use Rattle.std.proofs.lemmas.Option.{IfSome_then}
use Rattle.section_data.proofs.Runs.{block_is}
use Rattle.section_data.proofs.blocks.short_span.Goals as goal

pub returns : goal.returns
returns c =
    IfSome_then c.span_of.result c.span_of.ensures
    (λ s is.
    block_is 16 c.args.pieces.now c.args.block (c.args.block * 16) (c.args.block * 16 + 16) s _
    (omega arith) (omega arith)
    (omega (arith, c.requires)) refl is)
