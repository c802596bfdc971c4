use Rattle.rebuild_debug.proofs.PlanLaws.{half_planned, half_unplanned}
use Rattle.rebuild_debug.proofs.planning.plan_half.Goals as goal

pub plan_arranged-requires : goal.plan_arranged-requires
plan_arranged-requires g c = c.in-Ok.ensures.small

pub returns-in-Ok : goal.returns-in-Ok
returns-in-Ok g c =
    half_planned c.args.elf.now c.in-Ok.x c.plan_arranged.result c.in-Ok.ensures
    c.plan_arranged.ensures

pub returns-in-Err : goal.returns-in-Err
returns-in-Err g c = half_unplanned c.args.elf.now c.in-Err.e c.in-Err.ensures.err
