use Rattle.std.proofs.lemmas.Result.{err_from_is_err_and}
use Rattle.calls_tool.proofs.update.InPlaceLemmas.{left_unflushed, left_changed}
use Rattle.calls_tool.proofs.update.changing.change_left.Goals as goal

pub returns-in_err-flush : goal.returns-in_err-flush
returns-in_err-flush g c =
    let p = err_from_is_err_and c.from_residual.result c.from_residual.ensures.1 in
    let flushed = c.in_err-flush.ensures in
    rw (p.1, p.2) (left_unflushed g.D.Source g.D.Device g.O.Sink g.E.Sink c.args.elf.now
    c.args.outputs.now _ _ flushed.writes flushed.leaves)

pub returns : goal.returns
returns g c =
    let updated = c.update_in_place-updated in
    let flushed = c.in_ok-flush.ensures in
    left_changed g.D.Source g.D.Device g.O.Sink g.E.Sink c.args.elf.now c.args.outputs.now _ _ _ _
    updated.result _ flushed.writes flushed.leaves updated.ensures.answer updated.ensures.clean
    updated.ensures.ends updated.ensures.updates c.show_update.ensures
