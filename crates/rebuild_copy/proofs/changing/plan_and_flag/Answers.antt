use Rattle.rebuild_copy.proofs.ChangeLaws.{planned_then}
use Rattle.rebuild_copy.proofs.FindLaws.{memory_alters}
use Rattle.rebuild_copy.proofs.changing.plan_and_flag.Goals as goal

pub returns-in-Ok : goal.returns-in-Ok
returns-in-Ok c =
    planned_then c.args.changes.now c.args.renewed c.args.marks.now c.in-Ok.naming c.args.x.now
    c.flag_and_add.new.x c.flag_and_add.result c.in-Ok.ensures.naming c.flag_and_add.ensures

pub returns-in-Err : goal.returns-in-Err
returns-in-Err c =
    memory_alters _ _ c.in-Err.e c.args.x.now c.args.x.now c.in-Err.ensures.err
