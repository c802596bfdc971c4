use Rattle.rebuild_image.specs.Ranges.Ranges.{kept_of_parts}
use Rattle.rebuild_image.proofs.ranges.RangeLaws.{part_extent}
use Rattle.rebuild_image.proofs.ranges.parts.RangedPartsImageParts.piece.Goals as goal

pub returns : goal.returns
returns g c =
    part_extent (kept_of_parts g.S.Source c.args.self.now) c.args.part c.range_at.result
    c.args._p c.extent_of.result c.range_at.ensures c.requires.ready c.requires.there
    c.extent_of.ensures
