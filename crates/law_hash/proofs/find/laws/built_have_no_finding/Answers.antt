use Rattle.law_hash.proofs.find.BuiltHold.{built_have_no_finding}
use Rattle.law_hash.proofs.find.laws.built_have_no_finding.Goals as goal

pub returns : goal.returns
returns c = built_have_no_finding c.built_are_whole.ensures
