use Rattle.rebuild_changes.specs.Stated.{stated_changes}
use Rattle.copy_tool.proofs.FaultLemmas.{fault_writes}
use Rattle.copy_tool.proofs.WriteLemmas.{copied_written}
use Rattle.copy_tool.proofs.writing.write_copied.Goals as goal

pub plan_copied-requires-clause-clean : goal.plan_copied-requires-clause-clean
plan_copied-requires-clause-clean g c = c.requires.clean

pub plan_copied-requires-clause-plain : goal.plan_copied-requires-clause-plain
plan_copied-requires-clause-plain g c = c.requires.names

pub returns-in-Ok : goal.returns-in-Ok
returns-in-Ok g c =
    copied_written g.S.Source g.F.Files g.O.Sink g.E.Sink (stated_changes c.args.changes.now)
    c.args.file.now c.args.out.now c.args.elf c.plan_copied.new.elf c.write_plan.result.0
    c.in-Ok.plan c.write_plan.result.1 c.args.files.now _ c.args.outputs.now _ c.requires.over
    c.in-Ok.ensures (rw c.end.ensures at c.write_plan.ensures)

pub returns-in-Err : goal.returns-in-Err
returns-in-Err g c =
    rw c.end-in-Err.ensures (fault_writes g.S.Source g.F.Files g.O.Sink g.E.Sink
    (stated_changes c.args.changes.now) c.args.file.now c.args.out.now c.in-Err.fault c.args.elf
    c.plan_copied.new.elf c.args.files.now c.refuse_fault-refused.result c.args.outputs.now _
    c.in-Err.ensures c.refuse_fault-refused.ensures.reports c.refuse_fault-refused.ensures.stops
    c.refuse_fault-refused.ensures.leaves)
