use Rattle.tool_output.proofs.StepLemmas.{writes_went, went_none, side_turned}
use Rattle.tool_output.proofs.outputs.Outputs.turn_to.Goals as goal

pub returns-then-eq-clause-writes : goal.returns-then-eq-clause-writes
returns-then-eq-clause-writes g c = writes_went g.O.Sink g.E.Sink _ _ _ _ (went_none g.O.Sink g.E.Sink c.args.self.now)

pub returns-clause-writes : goal.returns-clause-writes
returns-clause-writes g c =
    side_turned g.O.Sink g.E.Sink _ _ c.args.self.now c.flush.new.self _ c.in_ok-flush.ensures.empty c.in_ok-flush.ensures.writes
