use Rattle.calls_tool.proofs.update.CallsLemmas.{edits_written, edits_refused}
use Rattle.calls_tool.proofs.update.edits.CallsEditFileEdit.edit.Goals as goal

pub returns-in-Ok : goal.returns-in-Ok
returns-in-Ok g c =
    rw c.end.ensures (edits_written g.S.Source g.F.Files g.O.Sink g.E.Sink
    c.args.self.now.calls.now c.args.self.now.out.now c.args.name.now _ c.args.src
    c.args.files.now _ c.args.outputs.now _ c.in-Ok.elf _ _ c.in-Ok.ensures.asks
    c.in-Ok.ensures.answer c.in-Ok.ensures.told c.in-Ok.ensures.bound
    c.write_calls-written.ensures)

pub returns-in-Err : goal.returns-in-Err
returns-in-Err g c =
    edits_refused g.S.Source g.F.Files g.O.Sink g.E.Sink c.args.self.now.calls.now
    c.args.self.now.out.now c.args.name.now _ c.args.src c.args.files.now c.args.files.now
    c.args.outputs.now _ _ _ _ c.in-Err.ensures.asks c.in-Err.ensures.answer
    c.in-Err.ensures.bound (rw c.of.ensures at c.refuse_image-refused.ensures)
