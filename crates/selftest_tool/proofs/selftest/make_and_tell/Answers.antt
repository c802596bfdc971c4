use Rattle.std.proofs.Common.{refl}
use Rattle.tool_output.specs.Outcomes.{report_outcome, write_of}
use Rattle.selftest_tool.specs.Told.{told_outcome}
use Rattle.selftest_tool.proofs.FileLemmas.{selftest_does, selftest_stopped, left_then, left_stopped}
use Rattle.selftest_tool.proofs.selftest.make_and_tell.Goals as goal

pub edit_file-requires : goal.edit_file-requires
unfolding told_outcome report_outcome write_of
edit_file-requires g c = λ bytes. refl

pub returns-in-Err-clause-does : goal.returns-in-Err-clause-does
returns-in-Err-clause-does g c = λ tells.
    let law = c.selftest_law.ensures c.args.out.now c.args.n c.requires.0 c.requires.1 in
    selftest_stopped g.F.Files g.O.Sink g.E.Sink c.args.files.now c.write_made.new.files
    c.args.files.now c.args.outputs.now c.write_made.new.outputs c.args.outputs.now
    c.args.out.now c.args.n law c.in-Err.stop (c.in-Err.ensures.does tells)

pub returns-in-Err-clause-leaves : goal.returns-in-Err-clause-leaves
returns-in-Err-clause-leaves g c =
    left_stopped g.F.Files g.O.Sink g.E.Sink c.args.files.now c.write_made.new.files
    c.args.files.now c.args.outputs.now c.write_made.new.outputs c.args.outputs.now
    c.in-Err.stop c.in-Err.ensures.leaves

pub returns-clause-does : goal.returns-clause-does
returns-clause-does g c = λ tells.
    let law = c.selftest_law.ensures c.args.out.now c.args.n c.requires.0 c.requires.1 in
    selftest_does g.F.Files g.O.Sink g.E.Sink c.args.files.now c.write_made.new.files
    c.edit_file.new.files c.args.outputs.now c.write_made.new.outputs c.edit_file.new.outputs
    c.args.out.now c.args.n law _ c.edit_file.result tells
    c.in_default.ensures.leaves.totals.tells (c.in_default.ensures.does tells)
    c.edit_file.ensures.does

pub returns-clause-leaves : goal.returns-clause-leaves
returns-clause-leaves g c =
    left_then g.F.Files g.O.Sink g.E.Sink c.args.files.now c.write_made.new.files
    c.edit_file.new.files c.args.outputs.now c.write_made.new.outputs c.edit_file.new.outputs
    _ c.edit_file.result c.in_default.ensures.leaves c.edit_file.ensures.leaves
