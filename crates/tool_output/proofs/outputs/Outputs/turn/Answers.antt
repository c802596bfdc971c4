use Rattle.tool_output.proofs.StepLemmas.{writes_went, went_none}
use Rattle.tool_output.proofs.outputs.Outputs.turn.Goals as goal

pub returns-then-len-lt-OUTPUT_BUFFER_SIZE-clause-writes : goal.returns-then-len-lt-OUTPUT_BUFFER_SIZE-clause-writes
returns-then-len-lt-OUTPUT_BUFFER_SIZE-clause-writes g c = writes_went g.O.Sink g.E.Sink _ _ _ _ (went_none g.O.Sink g.E.Sink c.args.self.now)
