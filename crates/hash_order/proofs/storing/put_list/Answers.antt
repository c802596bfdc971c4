use Rattle.std.proofs.Common.{[], refl}
use Rattle.hash_order.proofs.StoreLaws.{lent_stores, never_lent}
use Rattle.hash_order.proofs.storing.put_list.Goals as goal

pub returns : goal.returns
returns g c =
    lent_stores g.S.Source g.T.Listed.kind c.args.n c.args.elf.now c.requires c.lend.result _
    (g.T.Listed.variant c.args.list) (g.met.T.Listed.of_kind c.args.list)
    (c.lend.follows.holds _ (rw c.in-Ok.is refl))

pub unreachable-requires : goal.unreachable-requires
unreachable-requires g c =
    never_lent g.S.Source g.T.Listed.kind c.args.n c.args.elf.now c.requires c.in-Err.field-0
    (g.T.Listed.variant []) (g.met.T.Listed.of_kind []) c.in-Err.ensures.answer
