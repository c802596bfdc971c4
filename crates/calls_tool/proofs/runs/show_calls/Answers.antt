use Rattle.std.proofs.Common.{refl}
use Rattle.std.proofs.lemmas.Result.{err_from_is_err_and}
use Rattle.calls_tool.proofs.RunLemmas.{run_begins, run_goes_on, run_stops, run_ends}
use Rattle.calls_tool.proofs.runs.show_calls.Goals as goal

pub loop-call-init : goal.loop-call-init
loop-call-init g c = run_begins g.S.Source g.O.Sink g.E.Sink c.args.calls.now c.args.elf.now c.args.outputs.now

pub loop-call-preserved : goal.loop-call-preserved
loop-call-preserved g c =
    run_goes_on c.loop-call.invariant c.call-item.result c.loop-call-test.true c.call-item.is c.in_ok-was_refused.ensures refl

pub returns-in_err-was_refused : goal.returns-in_err-was_refused
returns-in_err-was_refused g c =
    let p = err_from_is_err_and c.from_residual.result c.from_residual.ensures.1 in
    rw (p.1, p.2) (run_stops c.loop-call.invariant c.call-item.result c.loop-call-test.true c.call-item.is c.in_err-was_refused.ensures)

pub returns : goal.returns
returns g c = run_ends c.loop-call.invariant c.loop-call-test.false
