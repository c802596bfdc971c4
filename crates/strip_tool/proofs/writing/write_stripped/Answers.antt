use Rattle.strip_tool.proofs.WriteLemmas.{stripped_written, stripped_refused}
use Rattle.strip_tool.proofs.writing.write_stripped.Goals as goal

pub plan_stripped-requires : goal.plan_stripped-requires
plan_stripped-requires g c = record { clean = c.requires.clean }

pub returns-in-Ok : goal.returns-in-Ok
returns-in-Ok g c =
    stripped_written g.S.Source g.F.Files g.O.Sink g.E.Sink c.args.command.now.debug_only
    c.args.command.now.names.now c.args.file.now c.args.command.now.out.now c.args.elf
    c.plan_stripped.new.elf c.write_plan.result.0 c.in-Ok.plan c.write_plan.result.1
    c.args.files.now _ c.args.outputs.now _ c.requires.over c.in-Ok.ensures
    (rw c.end.ensures at c.write_plan.ensures)

pub returns-in-Err : goal.returns-in-Err
returns-in-Err g c =
    rw c.end-in-Err.ensures (stripped_refused g.S.Source g.F.Files g.O.Sink g.E.Sink
    c.args.command.now.debug_only c.args.command.now.names.now c.args.file.now
    c.args.command.now.out.now c.args.elf c.plan_stripped.new.elf c.in-Err.e
    c.refuse_for-refused.result c.args.files.now c.args.outputs.now _ c.in-Err.ensures
    c.refuse_for-refused.ensures)
