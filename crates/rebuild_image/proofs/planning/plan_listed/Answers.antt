use Rattle.elf_update_to.specs.declared.updates.PlannedParts.{PlannedParts}
use Rattle.rebuild_image.proofs.PlanLaws.{wanted, not_listed, not_planned, all_planned}
use Rattle.rebuild_image.proofs.UnreadLaws.{wanted_unread, placed_unread}
use Rattle.rebuild_image.proofs.planning.plan_listed.Goals as goal

pub plan-requires : goal.plan-requires
plan-requires c = c.in-Ok-place.ensures.count

pub returns-in-Err-clause-err : goal.returns-in-Err-clause-err
returns-in-Err-clause-err c = λ o is.
    wanted o c.args.x.now c.args.layout c.args.base is
    (c.parts_may_be_capped.ensures o is.object) c.in-Err.e c.in-Err.ensures.err

pub returns-in-Err-place-clause-err : goal.returns-in-Err-place-clause-err
returns-in-Err-place-clause-err c = λ o is.
    not_listed o c.args.x.now c.args.layout c.args.base is
    (c.parts_may_be_capped.ensures o is.object) c.in-Ok.parts
    (c.in-Ok.ensures.ok o is.object is.listed) c.in-Err-place.e c.in-Err-place.ensures.answer
    c.in-Err-place.ensures.memory

pub returns-in-Ok-plan-clause-ok : goal.returns-in-Ok-plan-clause-ok
returns-in-Ok-plan-clause-ok c = λ o is.
    all_planned o c.args.x.now c.args.layout c.args.base is
    (c.parts_may_be_capped.ensures o is.object) c.in-Ok.parts
    (c.in-Ok.ensures.ok o is.object is.listed) c.in-Ok-place.places c.in-Ok-place.ensures.answer
    c.in-Ok-plan.parts c.in-Ok-plan.ensures.ok

pub returns-in-Err-plan-clause-err : goal.returns-in-Err-plan-clause-err
returns-in-Err-plan-clause-err c = λ o is.
    not_planned o c.args.x.now c.args.layout c.args.base is
    (c.parts_may_be_capped.ensures o is.object) c.in-Ok.parts
    (c.in-Ok.ensures.ok o is.object is.listed) c.in-Ok-place.places c.in-Ok-place.ensures.answer
    c.in-Err-plan.e c.in-Err-plan.ensures.err

pub returns-in-Err-clause-unread : goal.returns-in-Err-clause-unread
returns-in-Err-clause-unread c = wanted_unread PlannedParts c.in-Err.e c.in-Err.ensures.err

pub returns-in-Err-place-clause-unread : goal.returns-in-Err-place-clause-unread
returns-in-Err-place-clause-unread c =
    placed_unread c.in-Ok.parts c.args.layout c.args.base c.args.x.now.header.class
    PlannedParts c.in-Err-place.e c.in-Err-place.ensures.answer

pub returns-in-Err-plan-clause-unread : goal.returns-in-Err-plan-clause-unread
returns-in-Err-plan-clause-unread c =
    wanted_unread PlannedParts c.in-Err-plan.e c.in-Err-plan.ensures.err
