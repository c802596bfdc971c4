use Rattle.std.proofs.Common.{refl}
use Rattle.std.proofs.lemmas.Result.{err_from_is_err_and}
use Rattle.tool_output.specs.Statuses.{status_code, refused_status}
use Rattle.tool_output.proofs.OutcomeLemmas.{does_as, stops_so}
use Rattle.elfkit_run.specs.Program.{request_outcome, needs_files, needs_writes}
use Rattle.elfkit_run.proofs.CommandLemmas.{notice_done}
use Rattle.elfkit_run.proofs.program.run_request.Goals as goal

pub returns-in_ok-refused-in-Run-clause-does : goal.returns-in_ok-refused-in-Run-clause-does
unfolding request_outcome needs_files
returns-in_ok-refused-in-Run-clause-does g c = rw c.in-Run.is (λ told.
    does_as g.F.Files g.O.Sink g.E.Sink c.args.files.now _ c.args.outputs.now _ refused_status
    status_code _ _ _ c.of_refused.ensures (c.in_ok-refused-in-Run.ensures.does (told refl)))

pub returns-in_err-refused-in-Run-clause-does : goal.returns-in_err-refused-in-Run-clause-does
unfolding request_outcome needs_files
returns-in_err-refused-in-Run-clause-does g c = rw c.in-Run.is (λ told.
    let p = err_from_is_err_and c.from_residual.result c.from_residual.ensures.1 in
    rw (p.1, p.2) (stops_so g.F.Files g.O.Sink g.E.Sink c.args.files.now _ c.args.outputs.now _
    refused_status status_code _ _ (c.in_err-refused-in-Run.ensures.does (told refl))))

pub returns-in_ok-refused-in-Run-clause-untouched : goal.returns-in_ok-refused-in-Run-clause-untouched
unfolding needs_files
returns-in_ok-refused-in-Run-clause-untouched g c = rw c.in-Run.is (λ closed. cc)

pub returns-in_err-refused-in-Run-clause-untouched : goal.returns-in_err-refused-in-Run-clause-untouched
unfolding needs_files
returns-in_err-refused-in-Run-clause-untouched g c = rw c.in-Run.is (λ closed. cc)

pub returns-in_ok-tell-in-Tell-clause-does : goal.returns-in_ok-tell-in-Tell-clause-does
returns-in_ok-tell-in-Tell-clause-does g c = rw c.in-Tell.is (λ told.
    notice_done g.F.Files g.O.Sink g.E.Sink _ (g.F.Files.named c.args.files.now) c.args.files.now
    c.args.outputs.now _ _ _ c.text.ensures c.in_ok-tell-in-Tell.ensures.writes)

pub returns-in_err-tell-in-Tell-clause-does : goal.returns-in_err-tell-in-Tell-clause-does
returns-in_err-tell-in-Tell-clause-does g c = rw c.in-Tell.is (λ told.
    let p = err_from_is_err_and c.from_residual-in_err-tell-in-Tell.result c.from_residual-in_err-tell-in-Tell.ensures.1 in
    rw (p.1, p.2) (notice_done g.F.Files g.O.Sink g.E.Sink _ (g.F.Files.named c.args.files.now)
    c.args.files.now c.args.outputs.now _ _ _ c.text.ensures c.in_err-tell-in-Tell.ensures.writes))

pub run_command-requires : goal.run_command-requires
run_command-requires g c = rw c.in-Run.is at c.requires

pub returns-in_ok-refused-in-Run-clause-given : goal.returns-in_ok-refused-in-Run-clause-given
unfolding needs_writes
returns-in_ok-refused-in-Run-clause-given g c =
    rw c.in-Run.is (λ reading. c.in_ok-refused-in-Run.ensures.given reading)

pub returns-in_err-refused-in-Run-clause-given : goal.returns-in_err-refused-in-Run-clause-given
unfolding needs_writes
returns-in_err-refused-in-Run-clause-given g c =
    rw c.in-Run.is (λ reading. c.in_err-refused-in-Run.ensures.given reading)
