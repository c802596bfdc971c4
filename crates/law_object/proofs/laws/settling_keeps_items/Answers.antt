use Rattle.law_object.proofs.ItemLaws.{settling_keeps_items}
use Rattle.law_object.proofs.laws.settling_keeps_items.Goals as goal

pub returns : goal.returns
returns c = settling_keeps_items c.decodes_as_encoded.ensures
