use Rattle.tool_files.proofs.EditLemmas.{unopened_done, unopened_leaves}
use Rattle.tool_files.proofs.ChangeLemmas.{change_done, change_leaves}
use Rattle.tool_files.proofs.changed.change_file.Goals as goal

pub returns-in-Err-clause-does : goal.returns-in-Err-clause-does
returns-in-Err-clause-does g c = λ told.
    let t = g.T.FileChange in
    unopened_done g.F.Files g.O.Sink g.E.Sink (t.command c.args.change.now)
    (t.outcome c.args.change.now) c.args.file_name.now _ _ c.args.files.now _ c.args.outputs.now _
    c.in-Err.fault _ c.in-Err.ensures (rw c.command.ensures at c.refuse_opening.ensures) told

pub returns-in-Err-clause-leaves : goal.returns-in-Err-clause-leaves
returns-in-Err-clause-leaves g c =
    let t = g.T.FileChange in
    unopened_leaves g.F.Files g.O.Sink g.E.Sink (t.command c.args.change.now)
    (t.outcome c.args.change.now) c.args.file_name.now _ _ c.args.files.now _ c.args.outputs.now _
    c.in-Err.fault _ c.in-Err.ensures (rw c.command.ensures at c.refuse_opening.ensures)

pub returns-in-Ok-clause-does : goal.returns-in-Ok-clause-does
returns-in-Ok-clause-does g c = λ told.
    let t = g.T.FileChange in
    let opens = c.in-Ok.ensures in
    let h = c.change_open.ensures in
    change_done g.F.Files g.O.Sink g.E.Sink (t.command c.args.change.now)
    (t.outcome c.args.change.now) c.args.file_name.now _ _ _ c.args.files.now _ _ _ _
    c.args.outputs.now _ opens.names opens.hands h.changes h.closed told
    (λ none. let k = (opens.not_there told).1 none in cc) (opens.bytes told) c.requires h.taken
    h.given

pub returns-in-Ok-clause-leaves : goal.returns-in-Ok-clause-leaves
returns-in-Ok-clause-leaves g c =
    let t = g.T.FileChange in
    let opens = c.in-Ok.ensures in
    let h = c.change_open.ensures in
    change_leaves g.F.Files g.O.Sink g.E.Sink (t.command c.args.change.now)
    (t.outcome c.args.change.now) c.args.file_name.now _ _ _ c.args.files.now _ _ _ _
    c.args.outputs.now _ opens.names opens.hands h.changes h.closed h.read_faults h.write_faults
    h.taken h.given h.live
