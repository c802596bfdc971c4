use Rattle.std.proofs.Common.{refl}
use Rattle.rebuild_image.proofs.ranges.RangeLaws.{piece_extent, none_has_no_piece}
use Rattle.rebuild_image.proofs.ranges.parts.extent_of.Goals as goal

pub returns-in-Some : goal.returns-in-Some
returns-in-Some c = λ held base p inside there.
    piece_extent held base c.args.range c.in-Some.range p _ c.in-Some.is refl refl inside there

pub returns-in-None : goal.returns-in-None
returns-in-None c = λ held base p inside there.
    absurd (none_has_no_piece held base c.args.range p c.in-None.is there)
