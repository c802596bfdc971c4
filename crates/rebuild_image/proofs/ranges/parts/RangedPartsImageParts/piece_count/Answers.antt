use Rattle.rebuild_image.specs.Ranges.Ranges.{kept_of_parts}
use Rattle.rebuild_image.proofs.ranges.RangeLaws.{part_count}
use Rattle.rebuild_image.proofs.ranges.parts.RangedPartsImageParts.piece_count.Goals as goal

pub returns : goal.returns
returns g c =
    part_count (kept_of_parts g.S.Source c.args.self.now) c.args.part c.range_at.result
    c.count_pieces.result c.range_at.ensures c.count_pieces.ensures
