use Rattle.rebuild_image.proofs.FrontLaws.{held_bytes_stay}
use Rattle.rebuild_image.proofs.laws.held_bytes_stay.Goals as goal

pub returns : goal.returns
returns c = held_bytes_stay
