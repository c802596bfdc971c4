use Rattle.hash_build.proofs.OrderLaws.{order_given}
use Rattle.hash_build.proofs.order.order_of.Goals as goal

pub returns-clause-ok : goal.returns-clause-ok
returns-clause-ok c =
    order_given _ _ _ c.indexes_of.result c.in_ok-rows.ensures.ok c.deref.ensures.value
    c.indexes_of.ensures.ok
