use Rattle.std.proofs.Common.{refl}
use Rattle.std.proofs.lemmas.Result.{err_from_is_err_and}
use Rattle.calls_tool.proofs.update.LeftLemmas.{laid_unmade, laid_made}
use Rattle.calls_tool.proofs.update.writing.write_laid.Goals as goal

pub returns-in_err-write_image : goal.returns-in_err-write_image
returns-in_err-write_image g c =
    let p = err_from_is_err_and c.from_residual.result c.from_residual.ensures.1 in
    let made = c.in_err-write_image.ensures in
    rw (p.1, p.2) (laid_unmade g.S.Source g.F.Files g.O.Sink g.E.Sink c.args.out.now
    c.args.elf.now _ c.args.files.now _ c.args.outputs.now _ _ made.does made.leaves
    made.source made.taken made.live c.args.size _ refl)

pub returns : goal.returns
returns g c =
    let made = c.in_ok-write_image.ensures in
    laid_made g.S.Source g.F.Files g.O.Sink g.E.Sink c.args.out.now c.args.elf.now _
    c.args.files.now _ c.args.outputs.now _ _ made.does made.leaves made.source made.taken made.live
    c.args.size _ _ _ refl c.show_answer.ensures
