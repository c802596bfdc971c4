use Rattle.law_object.proofs.TornLaws.{torn_law}
use Rattle.law_object.proofs.laws.torn_law.Goals as goal

pub returns : goal.returns
returns c = torn_law
