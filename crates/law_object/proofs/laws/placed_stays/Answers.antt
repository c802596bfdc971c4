use Rattle.law_object.proofs.TornLaws.{placed_stays}
use Rattle.law_object.proofs.laws.placed_stays.Goals as goal

pub returns : goal.returns
returns c = placed_stays
