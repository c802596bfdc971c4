use Rattle.std.proofs.Common.{◌∙◌}
use Rattle.rebuild_making.proofs.PlaceLaws.{allocated_same}
use Rattle.rebuild_making.proofs.places.is_allocated.Goals as goal

pub returns : goal.returns
returns c = c.is_allocated.ensures ∙ allocated_same c.args.h.now
