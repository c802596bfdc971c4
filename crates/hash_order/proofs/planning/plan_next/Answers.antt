use Rattle.hash_order.specs.Calls.{all_homes}
use Rattle.hash_order.proofs.PlanLaws.{appended}
use Rattle.hash_order.proofs.ReadLaws.{homes_wants, homes_end}
use Rattle.hash_order.proofs.planning.plan_next.Goals as goal

pub returns-in-Ok-clause-appends : goal.returns-in-Ok-clause-appends
returns-in-Ok-clause-appends g c =
    appended c.args.elf.now _ c.args.s.0 c.args.order.now c.args.n c.args.plan.now.items _
    c.in-Ok.next c.push_next.result c.push_next.ensures.ok c.in-Ok.ensures.next
    c.in-Ok.ensures.ready

pub returns-in-Ok-clause-reads : goal.returns-in-Ok-clause-reads
returns-in-Ok-clause-reads g c =
    homes_wants g.S.Source (all_homes c.args.elf.now.o c.args.s.0) c.in-Ok.next
    c.push_next.result c.args.elf.now _ c.push_next.ensures.err c.in-Ok.ensures.reads

pub returns-in-Err-clause-reads : goal.returns-in-Err-clause-reads
returns-in-Err-clause-reads g c =
    homes_end g.S.Source (all_homes c.args.elf.now.o c.args.s.0) c.in-Err.e c.args.elf.now _
    c.in-Err.ensures.reads
