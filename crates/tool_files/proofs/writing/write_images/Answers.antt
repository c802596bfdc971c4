use Rattle.std.proofs.Common.{false}
use Rattle.std.proofs.lemmas.Result.{err_from_is_err_and}
use Rattle.tool_files.proofs.LeftLemmas.{unput_leaves, both_leave, stopped_leave}
use Rattle.tool_files.proofs.WriteLemmas.{images_unput, order_none, order_done, files_done, files_stopped, files_in_order}
use Rattle.tool_files.proofs.writing.write_images.Goals as goal

pub returns-in_err-flush-clause-does : goal.returns-in_err-flush-clause-does
returns-in_err-flush-clause-does g c = λ told.
    let p = err_from_is_err_and c.from_residual.result c.from_residual.ensures.1 in
    rw (p.1, p.2) (images_unput g.F.Files g.O.Sink g.E.Sink c.args.files.now c.args.outputs.now _
    told _ c.args.first_name.now c.args.second_name.now (g.I.Image.bytes c.args.first.now)
    (g.J.Image.bytes c.args.second.now) c.in_err-flush.ensures.writes)

pub returns-in_err-make_files-clause-does : goal.returns-in_err-make_files-clause-does
returns-in_err-make_files-clause-does g c = λ told.
    let r = c.from_residual-in_err-make_files in
    let p = err_from_is_err_and r.result r.ensures.1 in
    rw (p.1, p.2) (files_stopped g.F.Files g.O.Sink g.E.Sink c.args.files.now _
    c.args.outputs.now _ c.args.first_name.now c.args.second_name.now c.requires.differ
    (g.I.Image.bytes c.args.first.now) (g.J.Image.bytes c.args.second.now) _ _ _ _ _ _
    c.in_ok-flush.ensures.writes told c.in_err-make_files.ensures.makes)

pub returns-clause-does : goal.returns-clause-does
returns-clause-does g c = λ told.
    files_done g.F.Files g.O.Sink g.E.Sink c.args.files.now _ c.args.outputs.now _
    c.args.first_name.now c.args.second_name.now c.requires.differ
    (g.I.Image.bytes c.args.first.now) (g.J.Image.bytes c.args.second.now) _ _ _ _ _ _
    c.in_ok-flush.ensures.writes told c.in_ok-make_files.ensures.makes

pub returns-in_err-flush-clause-order : goal.returns-in_err-flush-clause-order
returns-in_err-flush-clause-order g c =
    order_none g.F.Files c.args.first_name.now c.args.second_name.now
    (g.I.Image.bytes c.args.first.now) _ c.args.files.now

pub returns-in_err-make_files-clause-order : goal.returns-in_err-make_files-clause-order
returns-in_err-make_files-clause-order g c =
    let r = c.from_residual-in_err-make_files in
    let p = err_from_is_err_and r.result r.ensures.1 in
    rw (p.1, p.2) (files_in_order g.F.Files g.O.Sink g.E.Sink c.args.files.now _
    c.args.outputs.now c.args.outputs.now c.args.first_name.now c.args.second_name.now
    c.requires.differ (g.I.Image.bytes c.args.first.now) (g.J.Image.bytes c.args.second.now)
    _ _ _ _ _ c.in_err-make_files.ensures.makes)

pub returns-clause-order : goal.returns-clause-order
returns-clause-order g c =
    order_done g.F.Files c.args.first_name.now c.args.second_name.now
    (g.I.Image.bytes c.args.first.now) false c.args.files.now _

pub returns-in_err-flush-clause-leaves : goal.returns-in_err-flush-clause-leaves
returns-in_err-flush-clause-leaves g c =
    let p = err_from_is_err_and c.from_residual.result c.from_residual.ensures.1 in
    rw (p.1, p.2) (unput_leaves g.F.Files g.O.Sink g.E.Sink _ _ c.args.files.now
    c.args.outputs.now _ c.in_err-flush.ensures.leaves)

pub returns-in_err-make_files-clause-leaves : goal.returns-in_err-make_files-clause-leaves
returns-in_err-make_files-clause-leaves g c =
    let r = c.from_residual-in_err-make_files in
    let p = err_from_is_err_and r.result r.ensures.1 in
    rw (p.1, p.2) (stopped_leave g.F.Files g.O.Sink g.E.Sink c.args.files.now _
    c.args.outputs.now _ c.in_ok-flush.ensures.leaves.keeps c.args.first_name.now
    c.args.second_name.now (g.I.Image.bytes c.args.first.now) (g.J.Image.bytes c.args.second.now)
    _ _ _ _ _ c.in_err-make_files.ensures.makes)

pub returns-clause-leaves : goal.returns-clause-leaves
returns-clause-leaves g c =
    both_leave g.F.Files g.O.Sink g.E.Sink c.args.files.now _ c.args.outputs.now _
    c.in_ok-flush.ensures.leaves.keeps c.args.first_name.now c.args.second_name.now
    (g.I.Image.bytes c.args.first.now) (g.J.Image.bytes c.args.second.now) _ _ _ _ _ _ _
    c.in_ok-make_files.ensures.makes
