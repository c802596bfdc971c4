use Rattle.std.proofs.lemmas.Result.{err_from_is_err_and}
use Rattle.tool_output.specs.Statuses.{status_code}
use Rattle.tool_output.proofs.OutcomeLemmas.{nothing_done}
use Rattle.elfkit_run.specs.Program.{program, outcome_by, opens_files, hands_to_writes}
use Rattle.elfkit_run.proofs.CommandLemmas.{usage_done}
use Rattle.elfkit_run.proofs.program.run_words.Goals as goal

pub returns-in-Ok-clause-does : goal.returns-in-Ok-clause-does
unfolding program outcome_by opens_files
returns-in-Ok-clause-does g c = rw c.in-Ok.ensures.value c.run_request-ended.ensures.does

pub returns-in-Ok-clause-status : goal.returns-in-Ok-clause-status
returns-in-Ok-clause-status g c = rw c.in-Ok.ensures.value c.run_request-ended.ensures.status

pub returns-in-Ok-clause-untouched : goal.returns-in-Ok-clause-untouched
unfolding opens_files
returns-in-Ok-clause-untouched g c = rw c.in-Ok.ensures.value c.run_request-ended.ensures.untouched

pub returns-in-Ok-clause-given : goal.returns-in-Ok-clause-given
unfolding hands_to_writes
returns-in-Ok-clause-given g c = rw c.in-Ok.ensures.value c.run_request-ended.ensures.given

pub returns-in_ok-say-in-Err-Usage-clause-does : goal.returns-in_ok-say-in-Err-Usage-clause-does
returns-in_ok-say-in-Err-Usage-clause-does g c = λ told.
    usage_done g.F.Files g.O.Sink g.E.Sink _ (g.F.Files.named c.args.files.now) c.args.files.now c.args.outputs.now _ c.args.words.now _ _
    (rw c.in-Err-Usage.field-0-is at c.in-Err-Usage.ensures.value) (rw c.in-Err-Usage.usage-is at c.line.ensures) c.in_ok-say-in-Err-Usage.ensures.writes

pub returns-in_err-say-in-Err-Usage-clause-does : goal.returns-in_err-say-in-Err-Usage-clause-does
returns-in_err-say-in-Err-Usage-clause-does g c = λ told.
    let p = err_from_is_err_and c.from_residual.result c.from_residual.ensures.1 in
    rw (p.1, p.2) (usage_done g.F.Files g.O.Sink g.E.Sink _ (g.F.Files.named c.args.files.now) c.args.files.now c.args.outputs.now _ c.args.words.now _ _
    (rw c.in-Err-Usage.field-0-is at c.in-Err-Usage.ensures.value) (rw c.in-Err-Usage.usage-is at c.line.ensures) c.in_err-say-in-Err-Usage.ensures.writes)

pub returns-in-Err-Memory-clause-does : goal.returns-in-Err-Memory-clause-does
returns-in-Err-Memory-clause-does g c = λ told. nothing_done g.F.Files g.O.Sink g.E.Sink status_code _ _ c.args.files.now c.args.outputs.now
