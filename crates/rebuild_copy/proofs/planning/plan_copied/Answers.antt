use Rattle.std.proofs.Common.{Ok, Err}
use Rattle.rebuild_changes.specs.Stated.{stated_changes}
use Rattle.rebuild_copy.proofs.PlanLaws.{plan_answers, plan_ends}
use Rattle.rebuild_copy.proofs.planning.plan_copied.Goals as goal

pub plan_arranged-requires : goal.plan_arranged-requires
plan_arranged-requires g c = c.in-Ok.ensures.small

pub returns-in-Err : goal.returns-in-Err
returns-in-Err g c =
    plan_ends g.S.Source (stated_changes c.args.changes.now) c.args.elf.now
    c.arrange_copied.new.elf c.in-Err.fault c.in-Err.ensures

pub returns-in-Ok-plan_arranged : goal.returns-in-Ok-plan_arranged
returns-in-Ok-plan_arranged g c =
    plan_answers g.S.Source (stated_changes c.args.changes.now) c.args.elf.now
    c.arrange_copied.new.elf c.in-Ok.x (Ok c.in-Ok-plan_arranged.plan) c.in-Ok.ensures
    c.in-Ok-plan_arranged.ensures

pub returns-in-Err-plan_arranged : goal.returns-in-Err-plan_arranged
returns-in-Err-plan_arranged g c =
    plan_answers g.S.Source (stated_changes c.args.changes.now) c.args.elf.now
    c.arrange_copied.new.elf c.in-Ok.x (Err c.in-Err-plan_arranged.e) c.in-Ok.ensures
    c.in-Err-plan_arranged.ensures
