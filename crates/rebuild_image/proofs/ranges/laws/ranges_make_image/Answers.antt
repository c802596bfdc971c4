use Rattle.rebuild_image.proofs.ranges.ImageLaws.{ranges_make_image}
use Rattle.rebuild_image.proofs.ranges.laws.ranges_make_image.Goals as goal

pub returns : goal.returns
returns c = ranges_make_image
