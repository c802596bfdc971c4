use Rattle.std.proofs.Common.{refl, ◌∙◌}
use Rattle.tool_output.proofs.FileLemmas.{given_kept}
use Rattle.tool_files.proofs.EditLemmas.{unopened_done, unopened_leaves, edit_done, edit_leaves}
use Rattle.tool_files.proofs.edited.edit_file.Goals as goal

pub returns-in-Err-clause-does : goal.returns-in-Err-clause-does
returns-in-Err-clause-does g c = λ told.
    let t = g.T.FileEdit in
    unopened_done g.F.Files g.O.Sink g.E.Sink (t.command c.args.edit.now)
    (t.outcome c.args.edit.now) c.args.file_name.now _ _ c.args.files.now _ c.args.outputs.now _
    c.in-Err.fault _ c.in-Err.ensures (rw c.command.ensures at c.refuse_opening.ensures) told

pub returns-in-Err-clause-leaves : goal.returns-in-Err-clause-leaves
returns-in-Err-clause-leaves g c =
    let t = g.T.FileEdit in
    unopened_leaves g.F.Files g.O.Sink g.E.Sink (t.command c.args.edit.now)
    (t.outcome c.args.edit.now) c.args.file_name.now _ _ c.args.files.now _ c.args.outputs.now _
    c.in-Err.fault _ c.in-Err.ensures (rw c.command.ensures at c.refuse_opening.ensures)

pub returns-in-Ok-clause-does : goal.returns-in-Ok-clause-does
returns-in-Ok-clause-does g c = λ told.
    let t = g.T.FileEdit in
    let opens = c.in-Ok.ensures in
    let h = c.edit_open.ensures in
    edit_done g.F.Files g.O.Sink g.E.Sink (t.command c.args.edit.now) (t.outcome c.args.edit.now)
    c.args.file_name.now _ _ _ c.args.files.now _ _ _ _ _ c.args.outputs.now _ opens.names
    opens.hands h.edits h.closed told (λ none. let k = (opens.not_there told).1 none in cc)
    (opens.bytes told) c.requires h.taken
    (given_kept _ _ _ _ (h.same_given ∙ opens.hands.fresh.given) refl h.given)

pub returns-in-Ok-clause-leaves : goal.returns-in-Ok-clause-leaves
returns-in-Ok-clause-leaves g c =
    let t = g.T.FileEdit in
    let opens = c.in-Ok.ensures in
    let h = c.edit_open.ensures in
    edit_leaves g.F.Files g.O.Sink g.E.Sink (t.command c.args.edit.now)
    (t.outcome c.args.edit.now) c.args.file_name.now _ _ _ c.args.files.now _ _ _ _ _
    c.args.outputs.now _ opens.names opens.hands h.edits h.closed h.read_faults h.write_faults
    h.taken h.given h.live
