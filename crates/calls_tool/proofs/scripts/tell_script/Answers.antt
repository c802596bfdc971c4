use Rattle.calls_tool.proofs.ScriptLemmas.{tells_calls, tells_bad, tells_nothing}
use Rattle.calls_tool.proofs.scripts.tell_script.Goals as goal

pub returns-in-Ok-Ok : goal.returns-in-Ok-Ok
returns-in-Ok-Ok g c = tells_calls g.S.Source g.O.Sink g.E.Sink c.args.name.now c.args.src.now _ c.args.outputs.now c.args.outputs.now _ (rw c.in-Ok-Ok.field-0-is at c.in-Ok-Ok.ensures)

pub returns-in-Ok-Err : goal.returns-in-Ok-Err
returns-in-Ok-Err g c =
    let refused = c.refuse_script.ensures in
    tells_bad g.S.Source g.O.Sink g.E.Sink c.args.name.now c.args.src.now _ c.args.outputs.now _ _ _ (rw c.in-Ok-Err.field-0-is at c.in-Ok-Err.ensures) refused.performs refused.none refused.leaves

pub returns-in-Err : goal.returns-in-Err
returns-in-Err g c = tells_nothing g.S.Source g.O.Sink g.E.Sink c.args.name.now c.args.src.now _ c.args.outputs.now c.args.outputs.now _ c.in-Err.ensures
