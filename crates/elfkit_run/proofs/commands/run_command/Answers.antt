use Rattle.elfkit_run.specs.Program.{command_outcome, writes_files}
use Rattle.elfkit_run.proofs.commands.run_command.Goals as goal

pub returns-in-Readelf-clause-does : goal.returns-in-Readelf-clause-does
unfolding command_outcome
returns-in-Readelf-clause-does g c = rw c.in-Readelf.is c.run_readelf.ensures.does

pub returns-in-Nm-clause-does : goal.returns-in-Nm-clause-does
unfolding command_outcome
returns-in-Nm-clause-does g c = rw c.in-Nm.is c.run_nm.ensures.does

pub returns-in-Lines-clause-does : goal.returns-in-Lines-clause-does
unfolding command_outcome
returns-in-Lines-clause-does g c = rw c.in-Lines.is c.run_lines.ensures.does

pub returns-in-Size-clause-does : goal.returns-in-Size-clause-does
unfolding command_outcome
returns-in-Size-clause-does g c = rw c.in-Size.is c.run_size.ensures.does

pub returns-in-Strings-clause-does : goal.returns-in-Strings-clause-does
unfolding command_outcome
returns-in-Strings-clause-does g c = rw c.in-Strings.is c.run_strings.ensures.does

pub returns-in-Elflint-clause-does : goal.returns-in-Elflint-clause-does
unfolding command_outcome
returns-in-Elflint-clause-does g c = rw c.in-Elflint.is c.run_elflint.ensures.does

pub selftest-requires : goal.selftest-requires
selftest-requires g c = rw c.in-Selftest.is at c.requires

pub returns-in-Selftest-clause-does : goal.returns-in-Selftest-clause-does
unfolding command_outcome
returns-in-Selftest-clause-does g c =
    rw c.in-Selftest.is c.selftest.ensures.does

pub returns-in-Calls-clause-does : goal.returns-in-Calls-clause-does
returns-in-Calls-clause-does g c = rw c.in-Calls.is c.calls_by_output.ensures.does

pub returns-in-Readelf-clause-given : goal.returns-in-Readelf-clause-given
returns-in-Readelf-clause-given g c = λ reading. c.run_readelf.ensures.given

pub returns-in-Nm-clause-given : goal.returns-in-Nm-clause-given
returns-in-Nm-clause-given g c = λ reading. c.run_nm.ensures.given

pub returns-in-Lines-clause-given : goal.returns-in-Lines-clause-given
returns-in-Lines-clause-given g c = λ reading. c.run_lines.ensures.given

pub returns-in-Size-clause-given : goal.returns-in-Size-clause-given
returns-in-Size-clause-given g c = λ reading. c.run_size.ensures.given

pub returns-in-Strings-clause-given : goal.returns-in-Strings-clause-given
returns-in-Strings-clause-given g c = λ reading. c.run_strings.ensures.given

pub returns-in-Elflint-clause-given : goal.returns-in-Elflint-clause-given
returns-in-Elflint-clause-given g c = λ reading. c.run_elflint.ensures.given

pub returns-in-Calls-clause-given : goal.returns-in-Calls-clause-given
returns-in-Calls-clause-given g c = rw c.in-Calls.is c.calls_by_output.ensures.given

pub calls_by_output-requires : goal.calls_by_output-requires
calls_by_output-requires g c = rw c.in-Calls.is at c.requires

pub strip_by_debug-requires : goal.strip_by_debug-requires
strip_by_debug-requires g c = rw c.in-Strip.is at c.requires

pub returns-in-Strip-clause-does : goal.returns-in-Strip-clause-does
unfolding command_outcome
returns-in-Strip-clause-does g c =
    rw c.in-Strip.is c.strip_by_debug.ensures.does

pub returns-in-Strip-clause-given : goal.returns-in-Strip-clause-given
unfolding writes_files
returns-in-Strip-clause-given g c = rw c.in-Strip.is (λ no. cc)

pub returns-in-Selftest-clause-given : goal.returns-in-Selftest-clause-given
unfolding writes_files
returns-in-Selftest-clause-given g c = rw c.in-Selftest.is (λ no. cc)

pub run_rehash-requires : goal.run_rehash-requires
run_rehash-requires g c = rw c.in-Rehash.is at c.requires

pub returns-in-Rehash-clause-does : goal.returns-in-Rehash-clause-does
unfolding command_outcome
returns-in-Rehash-clause-does g c =
    rw c.in-Rehash.is c.run_rehash.ensures.does

pub returns-in-Rehash-clause-given : goal.returns-in-Rehash-clause-given
unfolding writes_files
returns-in-Rehash-clause-given g c = rw c.in-Rehash.is (λ no. cc)

pub copy-requires : goal.copy-requires
copy-requires g c =
    let formed = rw c.in-Copy.is at c.requires in
    record { names = formed.0; apart = formed.1.file_differs }

pub returns-in-Copy-clause-does : goal.returns-in-Copy-clause-does
unfolding command_outcome
returns-in-Copy-clause-does g c = rw c.in-Copy.is c.copy.ensures.does

pub returns-in-Copy-clause-given : goal.returns-in-Copy-clause-given
unfolding writes_files
returns-in-Copy-clause-given g c = rw c.in-Copy.is (λ no. cc)

pub run_unstrip-requires : goal.run_unstrip-requires
run_unstrip-requires g c = rw c.in-Unstrip.is at c.requires

pub returns-in-Unstrip-clause-does : goal.returns-in-Unstrip-clause-does
unfolding command_outcome
returns-in-Unstrip-clause-does g c =
    rw c.in-Unstrip.is c.run_unstrip.ensures.does

pub returns-in-Unstrip-clause-given : goal.returns-in-Unstrip-clause-given
unfolding writes_files
returns-in-Unstrip-clause-given g c = rw c.in-Unstrip.is (λ no. cc)
