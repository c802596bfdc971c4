use Rattle.std.proofs.Common.{ap, ◌∙◌}
use Rattle.rebuild_model.specs.Rebuilt.{rebuilt_tail}
use Rattle.rebuild_keep.proofs.elf_update_plan.RowLaws.{ok_is}
use Rattle.rebuild_join.proofs.PlanLaws.{combined_planned, combined_unplanned}
use Rattle.rebuild_join.proofs.planning.plan_combined.Goals as goal

pub arrange_contents-requires-clause-few : goal.arrange_contents-requires-clause-few
arrange_contents-requires-clause-few g c = c.requires.contents.few

pub arrange_contents-requires-clause-sizes : goal.arrange_contents-requires-clause-sizes
arrange_contents-requires-clause-sizes g c = c.requires.contents.same

pub plan_arranged-requires : goal.plan_arranged-requires
plan_arranged-requires g c = c.in-Ok.ensures.small

pub returns-in-Ok : goal.returns-in-Ok
returns-in-Ok g c =
    combined_planned c.args.stripped.now c.args.debug.now c.requires.stripped c.requires.debug
    c.requires.fits c.args.contents c.requires.contents c.requires.passed c.tail_of-tail.result
    (c.tail_of-tail.ensures ∙ ap (rebuilt_tail c.args.stripped.now.o) c.none.ensures)
    c.shstrndx-index.result (ok_is _ _ c.shstrndx-index.ensures) c.in-Ok.x
    c.plan_arranged.result c.plan_arranged.ensures c.in-Ok.ensures

pub returns-in-Err : goal.returns-in-Err
returns-in-Err g c =
    combined_unplanned c.args.stripped.now c.args.debug.now c.requires.stripped c.requires.debug
    c.requires.fits c.args.contents c.requires.contents c.requires.passed c.tail_of-tail.result
    (c.tail_of-tail.ensures ∙ ap (rebuilt_tail c.args.stripped.now.o) c.none.ensures)
    c.shstrndx-index.result (ok_is _ _ c.shstrndx-index.ensures) c.in-Err.e c.in-Err.ensures
