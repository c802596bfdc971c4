use Rattle.rebuild_join.proofs.JoinedLaws.{joined_unkept, joined_planned, joined_unplanned}
use Rattle.rebuild_join.proofs.joining.plan_matched.Goals as goal

pub returns-in-Err : goal.returns-in-Err
returns-in-Err g c =
    joined_unkept c.args.stripped.now c.args.debug.now c.in-Err.fault c.in-Err.ensures

pub plan_combined-requires-clause-contents : goal.plan_combined-requires-clause-contents
plan_combined-requires-clause-contents g c = c.in-Ok.ensures.ok

pub plan_combined-requires-clause-passed : goal.plan_combined-requires-clause-passed
plan_combined-requires-clause-passed g c = c.in-Ok.ensures.passed

pub returns-in-Ok-plan_combined : goal.returns-in-Ok-plan_combined
returns-in-Ok-plan_combined g c =
    joined_planned c.args.stripped.now c.args.debug.now c.in-Ok.ensures.passed
    c.in-Ok-plan_combined.plan c.requires.small c.in-Ok-plan_combined.ensures

pub returns-in-Err-plan_combined : goal.returns-in-Err-plan_combined
returns-in-Err-plan_combined g c =
    joined_unplanned c.args.stripped.now c.args.debug.now c.in-Ok.ensures.passed
    c.in-Err-plan_combined.e c.in-Err-plan_combined.ensures
