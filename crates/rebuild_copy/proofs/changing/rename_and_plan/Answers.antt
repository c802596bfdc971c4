use Rattle.rebuild_copy.proofs.FindLaws.{memory_alters}
use Rattle.rebuild_copy.proofs.changing.rename_and_plan.Goals as goal

pub returns-in-Err : goal.returns-in-Err
returns-in-Err c =
    memory_alters _ _ c.in-Err.e c.args.x.now c.args.x.now c.in-Err.ensures.err
