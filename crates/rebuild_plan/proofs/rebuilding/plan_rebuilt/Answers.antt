use Rattle.rebuild_plan.proofs.WholeLaws.{rebuilt_planned, rebuilt_unplanned}
use Rattle.rebuild_plan.proofs.rebuilding.plan_rebuilt.Goals as goal

pub plan_arranged-requires : goal.plan_arranged-requires
plan_arranged-requires g c = c.in-Ok.ensures.small

pub returns-in-Ok : goal.returns-in-Ok
returns-in-Ok g c =
    rebuilt_planned g.S.Source c.args.removed.now c.args.elf.now c.arrange_rebuilt.new.elf
    c.in-Ok.x c.plan_arranged.result c.in-Ok.ensures c.plan_arranged.ensures

pub returns-in-Err : goal.returns-in-Err
returns-in-Err g c =
    rebuilt_unplanned g.S.Source c.args.removed.now c.args.elf.now c.arrange_rebuilt.new.elf
    c.in-Err.e c.in-Err.ensures
