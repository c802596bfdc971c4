use Rattle.std.proofs.lemmas.Result.{err_from_is_err_and}
use Rattle.tool_files.proofs.LeftLemmas.{unput_leaves, made_leaves, unmade_leaves}
use Rattle.tool_files.proofs.WriteLemmas.{image_unput, image_done, image_stopped}
use Rattle.tool_files.proofs.writing.write_image.Goals as goal

pub returns-in_err-flush-clause-does : goal.returns-in_err-flush-clause-does
returns-in_err-flush-clause-does g c = λ told.
    let p = err_from_is_err_and c.from_residual.result c.from_residual.ensures.1 in
    rw (p.1, p.2) (image_unput g.F.Files g.O.Sink g.E.Sink c.args.files.now c.args.outputs.now _
    told _ c.args.name.now (g.I.Image.bytes c.args.image.now) c.in_err-flush.ensures.writes)

pub returns-in_err-make_file-clause-does : goal.returns-in_err-make_file-clause-does
returns-in_err-make_file-clause-does g c = λ told.
    let r = c.from_residual-in_err-make_file in
    let p = err_from_is_err_and r.result r.ensures.1 in
    rw (p.1, p.2) (image_stopped g.F.Files g.O.Sink g.E.Sink c.args.files.now c.args.outputs.now _
    told _ _ c.args.name.now _ _ c.in_ok-flush.ensures.writes _
    (g.I.Image.bytes c.args.image.now) c.in_err-make_file.ensures.makes)

pub returns-clause-does : goal.returns-clause-does
returns-clause-does g c = λ told.
    image_done g.F.Files g.O.Sink g.E.Sink c.args.files.now c.args.outputs.now _ told _ _
    c.args.name.now _ _ c.in_ok-flush.ensures.writes _ (g.I.Image.bytes c.args.image.now)
    c.in_ok-make_file.ensures.makes

pub returns-in_err-flush-clause-leaves : goal.returns-in_err-flush-clause-leaves
returns-in_err-flush-clause-leaves g c =
    let p = err_from_is_err_and c.from_residual.result c.from_residual.ensures.1 in
    rw (p.1, p.2) (unput_leaves g.F.Files g.O.Sink g.E.Sink _ _ c.args.files.now
    c.args.outputs.now _ c.in_err-flush.ensures.leaves)

pub returns-in_err-make_file-clause-leaves : goal.returns-in_err-make_file-clause-leaves
returns-in_err-make_file-clause-leaves g c =
    let r = c.from_residual-in_err-make_file in
    let p = err_from_is_err_and r.result r.ensures.1 in
    rw (p.1, p.2) (unmade_leaves g.F.Files g.O.Sink g.E.Sink c.args.files.now _
    c.args.outputs.now _ c.in_ok-flush.ensures.leaves.keeps _ _ c.args.name.now
    (g.I.Image.bytes c.args.image.now) _ _ (λ rose. rose) c.in_err-make_file.ensures.makes)

pub returns-clause-leaves : goal.returns-clause-leaves
returns-clause-leaves g c =
    made_leaves g.F.Files g.O.Sink g.E.Sink c.args.files.now _ c.args.outputs.now _
    c.in_ok-flush.ensures.leaves.keeps _ _ c.in_ok-make_file.ensures.makes.totals
