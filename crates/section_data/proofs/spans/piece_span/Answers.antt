use Rattle.std.proofs.Common.{refl}
use Rattle.section_data.proofs.Runs.{one_span}
use Rattle.section_data.proofs.spans.piece_span.Goals as goal

pub returns : goal.returns
returns c =
    one_span _ c.args.piece.now c.in-Some.len c.in-Some.ensures refl c.align.ensures refl
