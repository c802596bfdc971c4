use Rattle.hash_order.proofs.CheckLaws.{first_answers, second_answers}
use Rattle.hash_order.proofs.checks.check_items.Goals as goal

pub returns-in-Ok : goal.returns-in-Ok
returns-in-Ok g c = second_answers _ _ _ c.in-Ok.held c.check_count.result c.in-Ok.ensures c.check_count.ensures

pub returns-in-Err : goal.returns-in-Err
returns-in-Err g c = first_answers _ _ _ c.in-Err.e c.in-Err.ensures
