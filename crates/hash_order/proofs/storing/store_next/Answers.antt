use Rattle.hash_order.proofs.StoreLaws.{one_none}
use Rattle.hash_order.proofs.storing.store_next.Goals as goal

pub returns-in-Stay : goal.returns-in-Stay
returns-in-Stay g c = rw c.in-Stay.is (one_none g.S.Source c.args.elf.now)
