use Rattle.std.proofs.Common.{◌∙◌}
use Rattle.rebuild_names.proofs.known.KnownPlaces.find.Goals as goal

pub returns : goal.returns
returns c = c.copied.ensures ∙ c.get.ensures.value
