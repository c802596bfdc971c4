use Rattle.std.proofs.lemmas.Result.{err_from_is_err_and}
use Rattle.calls_tool.proofs.update.CallsLemmas.{calls_written, calls_unwritten, calls_unrun}
use Rattle.calls_tool.proofs.update.writing.write_calls.Goals as goal

pub returns-in_err-refused : goal.returns-in_err-refused
returns-in_err-refused g c =
    let p = err_from_is_err_and c.from_residual.result c.from_residual.ensures.1 in
    rw (p.1, p.2) (calls_unrun g.S.Source g.F.Files g.O.Sink g.E.Sink c.args.calls.now
    c.args.out.now c.args.elf.now _ c.args.elf.now c.args.files.now c.args.files.now
    c.args.outputs.now _ c.args.outputs.now _ c.in_err-refused.ensures)

pub returns-in_err-updated : goal.returns-in_err-updated
returns-in_err-updated g c =
    let r = c.from_residual-in_err-updated in
    let p = err_from_is_err_and r.result r.ensures.1 in
    rw (p.1, p.2) (calls_unwritten g.S.Source g.F.Files g.O.Sink g.E.Sink c.args.calls.now
    c.args.out.now c.args.elf.now _ _ c.args.files.now _ c.args.outputs.now _ _ _ _
    c.in_ok-refused.ensures c.in_err-updated.ensures)

pub returns : goal.returns
returns g c =
    calls_written g.S.Source g.F.Files g.O.Sink g.E.Sink c.args.calls.now c.args.out.now
    c.args.elf.now _ _ c.args.files.now _ c.args.outputs.now _ _ _ _
    c.in_ok-refused.ensures c.in_ok-updated.ensures
