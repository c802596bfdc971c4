use Rattle.rebuild_image.proofs.HoldLaws.{held_fronts_are_stored}
use Rattle.rebuild_image.proofs.laws.held_fronts_are_stored.Goals as goal

pub returns : goal.returns
returns c = held_fronts_are_stored
