use Rattle.unstrip_tool.proofs.SplitLemmas.{first_refused, second_refused, both_plans}
use Rattle.unstrip_tool.proofs.planning.plan_both.Goals as goal

pub plan_arranged-requires : goal.plan_arranged-requires
plan_arranged-requires g c = c.requires.listable

pub returns-in-Err : goal.returns-in-Err
returns-in-Err g c = first_refused c.args.elf.now c.args.kept c.in-Err.e c.in-Err.ensures

pub returns-in-Ok-plan_half : goal.returns-in-Ok-plan_half
returns-in-Ok-plan_half g c =
    both_plans c.args.elf.now c.args.kept c.in-Ok.plan c.in-Ok.ensures c.in-Ok-plan_half.debug
    c.in-Ok-plan_half.ensures

pub returns-in-Err-plan_half : goal.returns-in-Err-plan_half
returns-in-Err-plan_half g c =
    second_refused c.args.elf.now c.args.kept c.in-Ok.plan c.in-Ok.ensures c.in-Err-plan_half.e
    c.in-Err-plan_half.ensures
