use Rattle.std.proofs.Common.{arith, ◌∙◌}
use Rattle.hash_order.proofs.MovingLaws.{in_order_none, in_order_more, in_order_all}
use Rattle.hash_order.proofs.moving.in_order.Goals as goal

pub loop-k-init : goal.loop-k-init
loop-k-init g c =
    c.in_ok-moved.ensures.ok ∙ in_order_none c.args.order.now c.args.items.now

pub loop-k-preserved : goal.loop-k-preserved
loop-k-preserved g c =
    in_order_more c.args.order.now c.args.items.now c.loop-k.k c.number_at-i.result
    c.loop-k.moved c.push_item.new.moved
    (omega (arith, c.loop-k-test.true, c.len-count.ensures)) c.number_at-i.ensures
    c.loop-k.invariant c.in_ok-push_item.ensures.ok

pub returns-clause-ok : goal.returns-clause-ok
returns-clause-ok g c =
    in_order_all c.args.order.now c.args.items.now c.loop-k.k c.len-count.result c.loop-k.moved
    c.loop-k-test.false c.len-count.ensures c.loop-k.invariant
