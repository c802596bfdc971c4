use Rattle.law_object.proofs.CapLaws.{parts_may_be_capped}
use Rattle.law_object.proofs.laws.parts_may_be_capped.Goals as goal

pub returns : goal.returns
returns c = parts_may_be_capped
