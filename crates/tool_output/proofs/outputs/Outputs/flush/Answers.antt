use Rattle.tool_output.proofs.StepLemmas.{page_put, page_lost}
use Rattle.tool_output.proofs.outputs.Outputs.flush.Goals as goal

pub returns-in-Ok-clause-writes : goal.returns-in-Ok-clause-writes
returns-in-Ok-clause-writes g c =
    page_put g.O.Sink g.E.Sink _ c.args.self.now _ (rw c.as_slice.ensures at c.in-Ok.ensures.ok) c.truncate.ensures

pub returns-in-Err-clause-writes : goal.returns-in-Err-clause-writes
returns-in-Err-clause-writes g c =
    page_lost g.O.Sink g.E.Sink c.args.self.now _ (rw c.as_slice.ensures at c.in-Err.ensures.front)
