use Rattle.std.proofs.Common.{refl}
use Rattle.rebuild_names.proofs.building.finish.Goals as goal

pub returns-in-Ok-clause-ok : goal.returns-in-Ok-clause-ok
returns-in-Ok-clause-ok c = record { table_is = c.in-Ok.ensures.ok; places_are = refl }
