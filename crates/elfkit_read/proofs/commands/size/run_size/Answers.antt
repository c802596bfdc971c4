use Rattle.std.proofs.lemmas.Result.{err_from_is_err_and}
use Rattle.tool_output.specs.Statuses.{refused_status}
use Rattle.elfkit_read.specs.Size.{size_outcome}
use Rattle.elfkit_read.proofs.TitleLemmas.{behind_done, behind_stopped}
use Rattle.elfkit_read.proofs.commands.size.run_size.Goals as goal

pub returns-in_err-show-clause-does : goal.returns-in_err-show-clause-does
unfolding size_outcome
returns-in_err-show-clause-does g c = λ told.
    let p = err_from_is_err_and c.from_residual.result c.from_residual.ensures.1 in
    rw (p.1, p.2) (behind_stopped g.F.Files g.O.Sink g.E.Sink refused_status _ _ c.args.files.now c.args.files.now c.args.outputs.now _ _ c.in_err-show.ensures.reports)

pub returns-clause-does : goal.returns-clause-does
unfolding size_outcome
returns-clause-does g c = λ told.
    behind_done g.F.Files g.O.Sink g.E.Sink refused_status _ _ c.args.files.now _ c.args.outputs.now _ _ _ _ c.in_ok-show.ensures.reports (c.each_object.ensures.does told)
