use Rattle.rebuild_object.proofs.CreatedLaws.{rebuilt_created}
use Rattle.rebuild_object.proofs.laws.rebuilt_are_created.Goals as goal

pub returns : goal.returns
returns c = rebuilt_created
