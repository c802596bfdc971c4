use Rattle.elf_types.specs.declared.records.Kind.TheVariants.{Sym}
use Rattle.hash_order.proofs.PlanLaws.{hand_stays}
use Rattle.hash_order.proofs.EndLaws.{plan_apart, plan_long, reorders_end, reorders_stored}
use Rattle.hash_order.proofs.reordering.reorder_with.Goals as goal

pub store_plan-requires-clause-hand : goal.store_plan-requires-clause-hand
store_plan-requires-clause-hand g c =
    hand_stays g.S.Source _ _ c.args.elf.now c.plan_sections.new.elf c.in-Ok.ensures.reads
    c.args.s.0 Sym c.requires.hand

pub store_plan-requires-clause-long : goal.store_plan-requires-clause-long
store_plan-requires-clause-long g c =
    plan_long g.S.Source c.args.elf.now c.plan_sections.new.elf c.args.s.0 c.args.order.now
    c.plan_sections.new.plan.items c.requires.passed c.in-Ok.ensures.reads c.in-Ok.ensures.plan

pub store_plan-requires-clause-apart : goal.store_plan-requires-clause-apart
store_plan-requires-clause-apart g c =
    plan_apart g.S.Source c.args.elf.now c.plan_sections.new.elf c.args.s.0 c.args.order.now
    c.plan_sections.new.plan.items c.requires.passed c.in-Ok.ensures.reads c.in-Ok.ensures.plan

pub returns-in-Ok-clause-reorders : goal.returns-in-Ok-clause-reorders
returns-in-Ok-clause-reorders g c =
    reorders_stored g.S.Source c.args.elf.now c.plan_sections.new.elf c.args.s.0 c.args.order.now
    c.plan_sections.new.plan.items c.requires.passed c.in-Ok.ensures.reads c.in-Ok.ensures.plan
    c.store_plan.new.elf c.args.symbols c.requires.long c.requires.symbols c.store_plan.ensures

pub returns-in-Err-clause-reorders : goal.returns-in-Err-clause-reorders
returns-in-Err-clause-reorders g c =
    reorders_end g.S.Source c.args.elf.now c.plan_sections.new.elf c.args.s.0 c.args.order.now
    c.in-Err.e c.requires.passed c.in-Err.ensures.reads

pub returns-in-Err-clause-ended : goal.returns-in-Err-clause-ended
returns-in-Err-clause-ended g c = c.in-Err.ensures.reads.ended
