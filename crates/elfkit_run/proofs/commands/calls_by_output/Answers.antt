use Rattle.elfkit_run.specs.Program.{command_outcome, writes_files}
use Rattle.elfkit_run.proofs.commands.calls_by_output.Goals as goal

pub returns-in-None-clause-does : goal.returns-in-None-clause-does
unfolding command_outcome
returns-in-None-clause-does g c = rw c.in-None.is c.calls.ensures.does

pub returns-in-None-clause-given : goal.returns-in-None-clause-given
returns-in-None-clause-given g c = λ reading. c.calls.ensures.given

pub calls_into-requires : goal.calls_into-requires
calls_into-requires g c = rw c.in-Some.is at c.requires

pub returns-in-Some-clause-does : goal.returns-in-Some-clause-does
unfolding command_outcome
returns-in-Some-clause-does g c = rw c.in-Some.is c.calls_into.ensures.does

pub returns-in-Some-clause-given : goal.returns-in-Some-clause-given
unfolding writes_files
returns-in-Some-clause-given g c = rw c.in-Some.is (λ no. cc)
