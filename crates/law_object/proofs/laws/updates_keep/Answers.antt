use Rattle.law_object.proofs.UpdateLaws.{updates_keep}
use Rattle.law_object.proofs.laws.updates_keep.Goals as goal

pub returns : goal.returns
returns c = updates_keep
