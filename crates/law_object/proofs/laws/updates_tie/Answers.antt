use Rattle.law_object.proofs.TiedLaws.{updates_tie}
use Rattle.law_object.proofs.laws.updates_tie.Goals as goal

pub returns : goal.returns
returns c = updates_tie c.reopen_law.ensures
