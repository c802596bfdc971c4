use Rattle.rebuild_image.proofs.HomeLaws.{homes_are_stored}
use Rattle.rebuild_image.proofs.laws.homes_are_stored.Goals as goal

pub returns : goal.returns
returns c = homes_are_stored
