use Rattle.std.proofs.Common.{Some}
use Rattle.std.proofs.lemmas.Result.{err_from_is_err_and}
use Rattle.elfkit_edit.proofs.CallsLemmas.{calls_done, left_then, no_calls_done, calls_stopped}
use Rattle.elfkit_edit.proofs.commands.calls.calls.Goals as goal

pub returns-in-Some-clause-does : goal.returns-in-Some-clause-does
returns-in-Some-clause-does g c = λ told.
    calls_done g.F.Files g.O.Sink g.E.Sink c.args.file.now c.args.script.now c.args.files.now c.calls_of_script.new.files c.args.outputs.now c.calls_of_script.new.outputs
    c.one_file.new.files c.one_file.new.outputs c.as_slice.result.now c.one_file.result
    (rw (c.as_str.ensures, c.in-Some.is, ← c.as_slice.ensures) at c.in_ok-read.ensures)
    (rw c.as_str-in-Some.ensures at c.one_file.ensures.reports) (rw c.as_str-in-Some.ensures at c.one_file.ensures.asks) told

pub returns-in-Some-clause-leaves : goal.returns-in-Some-clause-leaves
returns-in-Some-clause-leaves g c =
    left_then g.F.Files g.O.Sink g.E.Sink c.args.file.now c.args.script.now c.args.files.now
    c.calls_of_script.new.files c.args.outputs.now c.calls_of_script.new.outputs
    c.one_file.new.files c.one_file.new.outputs (Some c.as_slice.result.now) c.one_file.result
    (rw (c.as_str.ensures, c.in-Some.is, ← c.as_slice.ensures) at c.in_ok-read.ensures)
    c.one_file.ensures.reports.leaves

pub returns-in-None-clause-does : goal.returns-in-None-clause-does
returns-in-None-clause-does g c = λ told.
    no_calls_done g.F.Files g.O.Sink g.E.Sink c.args.file.now c.args.script.now c.args.files.now _ c.args.outputs.now _
    (rw (c.as_str.ensures, c.in-None.is) at c.in_ok-read.ensures) told

pub returns-in_err-read-clause-does : goal.returns-in_err-read-clause-does
returns-in_err-read-clause-does g c = λ told.
    let p = err_from_is_err_and c.from_residual.result c.from_residual.ensures.1 in
    rw (p.1, p.2) (calls_stopped g.F.Files g.O.Sink g.E.Sink c.args.file.now c.args.script.now c.args.files.now _ c.args.outputs.now _ _
    (rw c.as_str.ensures at c.in_err-read.ensures) told)
