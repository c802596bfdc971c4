use Rattle.rebuild_image.proofs.ranges.ImageLaws.{ranges_are_ready}
use Rattle.rebuild_image.proofs.ranges.laws.ranges_are_ready.Goals as goal

pub returns : goal.returns
returns c = ranges_are_ready
