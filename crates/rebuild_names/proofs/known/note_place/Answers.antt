use Rattle.rebuild_names.proofs.KnownLaws.{any_ok}
use Rattle.rebuild_names.proofs.known.note_place.Goals as goal

pub returns-in-Ok-clause-pushed : goal.returns-in-Ok-clause-pushed
returns-in-Ok-clause-pushed c = c.push_place.ensures.pushed

pub returns-in-Ok-clause-noted : goal.returns-in-Ok-clause-noted
returns-in-Ok-clause-noted c = any_ok c.push_place.result c.in-Ok.ensures.ok
