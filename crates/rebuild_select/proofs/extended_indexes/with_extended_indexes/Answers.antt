use Rattle.rebuild_model.specs.Removed.{with_found}
use Rattle.rebuild_select.proofs.extended_indexes.with_extended_indexes.Goals as goal

pub returns-clause-ok : goal.returns-clause-ok
unfolding with_found
returns-clause-ok g c = c.with_found.ensures.ok
