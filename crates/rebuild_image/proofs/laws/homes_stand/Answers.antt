use Rattle.rebuild_image.proofs.HomeLaws.{homes_stand}
use Rattle.rebuild_image.proofs.laws.homes_stand.Goals as goal

pub returns : goal.returns
returns c = homes_stand
