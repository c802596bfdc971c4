use Rattle.law_object.proofs.LawsHold.{refused_stays}
use Rattle.law_object.proofs.laws.refused_stays.Goals as goal

pub returns : goal.returns
returns g c = refused_stays _
