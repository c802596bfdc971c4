use Rattle.hash_order.proofs.EndLaws.{order_passes, reorder_answers, reorder_refused, reorders_none, refusal_free}
use Rattle.hash_order.proofs.reordering.reorder.Goals as goal

pub reorder_passed-requires-clause-passed : goal.reorder_passed-requires-clause-passed
reorder_passed-requires-clause-passed g c =
    order_passes c.args.elf.now.o c.args.s.0 c.in-Ok.field-0 c.in-Ok.ensures

pub returns-in-Ok-clause-answer : goal.returns-in-Ok-clause-answer
returns-in-Ok-clause-answer g c =
    reorder_answers c.args.elf.now c.args.s.0
    (order_passes c.args.elf.now.o c.args.s.0 c.in-Ok.field-0 c.in-Ok.ensures)
    c.reorder_passed.result c.reorder_passed.ensures.ended

pub returns-in-Err-clause-answer : goal.returns-in-Err-clause-answer
returns-in-Err-clause-answer g c =
    reorder_refused c.args.elf.now c.args.s.0 _ c.in-Err.e c.in-Err.ensures

pub returns-in-Err-clause-reorders : goal.returns-in-Err-clause-reorders
returns-in-Err-clause-reorders g c =
    reorders_none g.S.Source c.args.s.0 c.args.order.now c.args.elf.now c.in-Err.e
    (refusal_free c.args.elf.now.o c.args.s.0 _ c.in-Err.e c.in-Err.ensures)
