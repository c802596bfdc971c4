use Rattle.law_object.proofs.writing.LeftPlaces.{left_stands}
use Rattle.law_object.proofs.writing.in_place.left_stands.Goals as goal

pub returns : goal.returns
returns c = left_stands
