use Rattle.rebuild_image.proofs.StreamLaws.{streamed_parts_are_ranges}
use Rattle.rebuild_image.proofs.laws.streamed_parts_are_ranges.Goals as goal

pub returns : goal.returns
returns c = streamed_parts_are_ranges
