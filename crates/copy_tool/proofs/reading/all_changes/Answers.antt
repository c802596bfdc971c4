use Rattle.std.proofs.Common.{ap, Some, Ok}
use Rattle.rebuild_model.specs.Copied.{Changes}
use Rattle.copy_tool.proofs.reading.all_changes.Goals as goal

pub returns-in-Ok-clause-ok : goal.returns-in-Ok-clause-ok
returns-in-Ok-clause-ok c = ap (λ (x : Changes). Ok (Some x)) c.in-Ok.ensures.ok
