use Rattle.std.proofs.Common.{Some}
use Rattle.std.proofs.lemmas.Result.{err_from_is_err_and}
use Rattle.calls_tool.specs.declared.update.outputs.CallsOutput.TheVariants.{To}
use Rattle.elfkit_edit.proofs.CallsLemmas.{left_then}
use Rattle.elfkit_edit.proofs.CallsUpdateLemmas.{unwritten, update_done, no_update_done, update_stopped}
use Rattle.elfkit_edit.proofs.commands.calls_to.calls_to.Goals as goal

pub edit_file-requires : goal.edit_file-requires
edit_file-requires g c = λ bytes.
    rw (c.as_str-in-Some.ensures, c.as_str-in-Some-2.ensures)
    (unwritten c.as_slice.result.now c.args.out.now c.args.file.now bytes c.requires)

pub returns-in-Some-clause-does : goal.returns-in-Some-clause-does
returns-in-Some-clause-does g c = λ told.
    update_done g.F.Files g.O.Sink g.E.Sink (To c.args.out.now) c.args.file.now
    c.args.script.now c.args.files.now c.calls_of_script.new.files c.args.outputs.now
    c.calls_of_script.new.outputs c.edit_file.new.files c.edit_file.new.outputs
    c.as_slice.result.now c.edit_file.result
    (rw (c.as_str.ensures, c.in-Some.is, ← c.as_slice.ensures) at c.in_ok-read.ensures)
    (rw (c.as_str-in-Some.ensures, c.as_str-in-Some-2.ensures) at c.edit_file.ensures.does) told

pub returns-in-Some-clause-leaves : goal.returns-in-Some-clause-leaves
returns-in-Some-clause-leaves g c =
    left_then g.F.Files g.O.Sink g.E.Sink c.args.file.now c.args.script.now c.args.files.now
    c.calls_of_script.new.files c.args.outputs.now c.calls_of_script.new.outputs
    c.edit_file.new.files c.edit_file.new.outputs (Some c.as_slice.result.now)
    c.edit_file.result
    (rw (c.as_str.ensures, c.in-Some.is, ← c.as_slice.ensures) at c.in_ok-read.ensures)
    c.edit_file.ensures.leaves

pub returns-in-None-clause-does : goal.returns-in-None-clause-does
returns-in-None-clause-does g c = λ told.
    no_update_done g.F.Files g.O.Sink g.E.Sink (To c.args.out.now) c.args.file.now
    c.args.script.now c.args.files.now _ c.args.outputs.now _
    (rw (c.as_str.ensures, c.in-None.is) at c.in_ok-read.ensures) told

pub returns-in_err-read-clause-does : goal.returns-in_err-read-clause-does
returns-in_err-read-clause-does g c = λ told.
    let p = err_from_is_err_and c.from_residual.result c.from_residual.ensures.1 in
    rw (p.1, p.2) (update_stopped g.F.Files g.O.Sink g.E.Sink (To c.args.out.now) c.args.file.now
    c.args.script.now c.args.files.now _ c.args.outputs.now _ _
    (rw c.as_str.ensures at c.in_err-read.ensures) told)
