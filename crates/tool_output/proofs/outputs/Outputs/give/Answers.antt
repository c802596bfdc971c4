use Rattle.std.proofs.lemmas.Result.{err_from_is_err_and}
use Rattle.tool_output.proofs.StepLemmas.{performs_ok, performs_stop}
use Rattle.tool_output.proofs.outputs.Outputs.give.Goals as goal

pub returns-in_err-put-clause-performs : goal.returns-in_err-put-clause-performs
returns-in_err-put-clause-performs g c =
    let p = err_from_is_err_and c.from_residual.result c.from_residual.ensures.1 in
    rw (p.1, p.2) (performs_stop g.O.Sink g.E.Sink _ _ c.args.self.now _ _ c.in_err-put.ensures.writes)

pub returns-clause-performs : goal.returns-clause-performs
returns-clause-performs g c = performs_ok g.O.Sink g.E.Sink _ _ c.args.self.now _ _ c.in_ok-put.ensures.writes
