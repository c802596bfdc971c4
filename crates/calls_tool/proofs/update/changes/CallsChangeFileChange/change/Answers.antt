use Rattle.calls_tool.proofs.update.ChangingLemmas.{changes_made, changes_refused}
use Rattle.calls_tool.proofs.update.changes.CallsChangeFileChange.change.Goals as goal

pub returns-in-Ok : goal.returns-in-Ok
returns-in-Ok g c =
    rw c.end.ensures (changes_made g.D.Source g.D.Device g.O.Sink g.E.Sink
    g.met.D.Device.rest_begins c.args.self.now.calls.now c.args.name.now _ c.args.device
    c.args.outputs.now _ c.in-Ok.elf _ _ c.in-Ok.ensures.asks c.in-Ok.ensures.answer
    c.in-Ok.ensures.begun c.in-Ok.ensures.told c.in-Ok.ensures.bound
    c.change_calls-changed.ensures)

pub returns-in-Err : goal.returns-in-Err
returns-in-Err g c =
    changes_refused g.D.Source g.D.Device g.O.Sink g.E.Sink g.met.D.Device.rest_begins
    c.args.self.now.calls.now c.args.name.now _ c.args.device c.args.outputs.now _ _ _ _
    c.in-Err.ensures.asks c.in-Err.ensures.answer c.in-Err.ensures.bound
    (rw c.of.ensures at c.refuse_image-refused.ensures)
