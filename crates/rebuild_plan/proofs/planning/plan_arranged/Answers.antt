use Rattle.rebuild_plan.proofs.planning.plan_arranged.Goals as goal

pub plan_copied-requires-clause-few : goal.plan_copied-requires-clause-few
plan_copied-requires-clause-few g c = c.requires.few

pub plan_copied-requires-clause-sizes : goal.plan_copied-requires-clause-sizes
plan_copied-requires-clause-sizes g c = c.requires.same

pub returns : goal.returns
returns g c = c.plan_copied.ensures
