use Rattle.std.proofs.Common.{Some, true}
use Rattle.rebuild_changes.specs.Stated.{stated_changes}
use Rattle.copy_tool.proofs.CommandLemmas.{copy_done_with, copy_done_without, copy_stopped}
use Rattle.copy_tool.proofs.ReadLemmas.{left_ok, left_stop, left_then}
use Rattle.copy_tool.proofs.commands.copy_file.Goals as goal

pub copy_named-requires-clause-names : goal.copy_named-requires-clause-names
copy_named-requires-clause-names g c =
    rw c.in-Ok-Some.field-0-is at c.in-Ok-Some.ensures.plain

pub returns-in-Ok-Some-clause-does : goal.returns-in-Ok-Some-clause-does
returns-in-Ok-Some-clause-does g c = λ told.
    copy_done_with g.F.Files g.O.Sink g.E.Sink c.args.words.now c.args.out.now c.args.file.now
    c.args.files.now c.read_changes.new.files c.args.outputs.now c.read_changes.new.outputs
    (stated_changes c.in-Ok-Some.changes) c.copy_named.result _ _
    (rw c.in-Ok-Some.field-0-is at c.in-Ok-Some.ensures.reads) c.copy_named.ensures.does told

pub returns-in-Ok-Some-clause-leaves : goal.returns-in-Ok-Some-clause-leaves
returns-in-Ok-Some-clause-leaves g c =
    left_then g.F.Files g.O.Sink g.E.Sink (Some (stated_changes c.in-Ok-Some.changes))
    c.copy_named.result c.args.files.now c.read_changes.new.files _ c.args.outputs.now
    c.read_changes.new.outputs _
    (rw c.in-Ok-Some.field-0-is at c.in-Ok-Some.ensures.reads).leaves c.copy_named.ensures.leaves

pub returns-in-Ok-None-clause-does : goal.returns-in-Ok-None-clause-does
returns-in-Ok-None-clause-does g c = λ told.
    copy_done_without g.F.Files g.O.Sink g.E.Sink c.args.words.now c.args.out.now
    c.args.file.now c.args.files.now c.read_changes.new.files c.args.outputs.now
    c.read_changes.new.outputs (rw c.in-Ok-None.field-0-is at c.in-Ok-None.ensures.reads) told

pub returns-in-Ok-None-clause-leaves : goal.returns-in-Ok-None-clause-leaves
returns-in-Ok-None-clause-leaves g c =
    left_ok g.F.Files g.O.Sink g.E.Sink _ true c.args.files.now _ c.args.outputs.now _
    (rw c.in-Ok-None.field-0-is at c.in-Ok-None.ensures.reads).leaves

pub returns-in-Err-clause-does : goal.returns-in-Err-clause-does
returns-in-Err-clause-does g c = λ told.
    copy_stopped g.F.Files g.O.Sink g.E.Sink c.args.words.now c.args.out.now c.args.file.now
    c.args.files.now c.read_changes.new.files c.args.outputs.now c.read_changes.new.outputs
    c.in-Err.stop c.in-Err.ensures.reads told

pub returns-in-Err-clause-leaves : goal.returns-in-Err-clause-leaves
returns-in-Err-clause-leaves g c =
    left_stop g.F.Files g.O.Sink g.E.Sink c.in-Err.stop c.args.files.now _ c.args.outputs.now _
    c.in-Err.ensures.reads.leaves
