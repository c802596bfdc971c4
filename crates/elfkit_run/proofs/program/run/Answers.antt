use Rattle.std.proofs.Common.{◌∙◌, rules}
use Rattle.tool_output.specs.Statuses.{status_code}
use Rattle.tool_output.proofs.OutcomeLemmas.{run_delivers}
use Rattle.elfkit_run.proofs.CommandLemmas.{below_three}
use Rattle.elfkit_run.proofs.program.run.Goals as goal

pub returns-clause-delivers : goal.returns-clause-delivers
returns-clause-delivers g c = λ told.
    let v = c.new-outputs.ensures.values in
    run_delivers g.F.Files g.O.Sink g.E.Sink _ c.args.files.now _ status_code _ _ c.new-outputs.result _ _ _ _ _ _ _
    v.0 v.1 (search rules) (search rules) c.end.ensures (below_three _ _ c.run_words-ended.ensures.status)
    _ c.of.ensures (v.2 ∙ c.new-page.ensures) (c.run_words-ended.ensures.does told)
