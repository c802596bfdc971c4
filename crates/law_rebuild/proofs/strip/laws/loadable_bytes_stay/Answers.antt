-- What is opened stands in the base, as a law of writing says.
use Rattle.law_rebuild.proofs.strip.LoadedLaws.{loadable_bytes_stay}
use Rattle.law_rebuild.proofs.strip.laws.loadable_bytes_stay.Goals as goal

pub returns : goal.returns
returns c = loadable_bytes_stay c.beginnings_are_based.ensures
