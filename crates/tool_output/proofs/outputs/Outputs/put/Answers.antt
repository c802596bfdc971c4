use Rattle.std.proofs.Common.{[], ap, ◌∙◌, refl, take}
use Rattle.std.proofs.lemmas.Result.{err_from_is_err_and}
use Rattle.tool_output.proofs.PageLemmas.{restored}
use Rattle.tool_output.proofs.StepLemmas.{writes_stop, line_put, line_lost}
use Rattle.tool_output.proofs.outputs.Outputs.put.Goals as goal

pub returns-in_err-turn_to-clause-writes : goal.returns-in_err-turn_to-clause-writes
returns-in_err-turn_to-clause-writes g c =
    let p = err_from_is_err_and c.from_residual.result c.from_residual.ensures.1 in
    rw (p.1, p.2) (writes_stop g.O.Sink g.E.Sink _ c.args.self.now _ [] _ c.in_err-turn_to.ensures.writes)

pub returns-in-Err-clause-writes : goal.returns-in-Err-clause-writes
returns-in-Err-clause-writes g c =
    rw c.want_of.ensures (line_lost g.O.Sink g.E.Sink _ c.args.self.now c.turn_to.new.self _ _ _ c.in_ok-turn_to.ensures.writes refl refl refl
    (c.truncate.ensures ∙ ap (λ n. take n c.put.new.page) c.len-kept.ensures ∙ restored _ _ c.in-Err.ensures.err.1))

pub returns-clause-writes : goal.returns-clause-writes
returns-clause-writes g c =
    line_put g.O.Sink g.E.Sink _ _ c.args.self.now c.turn_to.new.self _ _ _ _ c.in_ok-turn_to.ensures.writes c.in_ok-turn_to.ensures.side refl refl refl
    c.in_default.ensures.ok c.turn.ensures.writes
