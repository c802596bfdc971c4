use Rattle.unstrip_tool.proofs.WriteLemmas.{split_written, split_refused}
use Rattle.unstrip_tool.proofs.writing.write_split.Goals as goal

pub plan_split-requires-clause-clean : goal.plan_split-requires-clause-clean
plan_split-requires-clause-clean g c = c.requires.clean

pub plan_split-requires-clause-removable : goal.plan_split-requires-clause-removable
plan_split-requires-clause-removable g c = c.requires.removable

pub returns-in-Ok : goal.returns-in-Ok
returns-in-Ok g c =
    split_written g.S.Source g.F.Files g.O.Sink g.E.Sink c.args.file.now c.args.names.now
    c.args.removed.now c.args.elf c.plan_split.new.elf c.write_plans.result.0 c.in-Ok.plans
    c.write_plans.result.1 c.args.files.now _ c.args.outputs.now _ c.requires.over
    c.in-Ok.ensures (rw c.end.ensures at c.write_plans.ensures)

pub returns-in-Err : goal.returns-in-Err
returns-in-Err g c =
    rw c.end-in-Err.ensures (split_refused g.S.Source g.F.Files g.O.Sink g.E.Sink
    c.args.file.now c.args.names.now c.args.removed.now c.args.elf c.plan_split.new.elf
    c.in-Err.e c.refuse_for-refused.result c.args.files.now c.args.outputs.now _
    c.in-Err.ensures c.refuse_for-refused.ensures)
