use Rattle.hash_build.proofs.OrderLaws.{sorted_given}
use Rattle.hash_build.proofs.order.sorted_rows.Goals as goal

pub returns-clause-ok : goal.returns-clause-ok
returns-clause-ok c =
    sorted_given _ _ _ c.in_ok-rows.ensures.ok c.sort_unstable.ensures.permutation
    c.sort_unstable.ensures.sorted
