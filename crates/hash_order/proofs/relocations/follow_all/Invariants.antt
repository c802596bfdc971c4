use Rattle.std.proofs.Common.{◌≡◌, ◌++◌, map, take, drop}
use Rattle.hash_order.proofs.relocations.follow_all.Given as goal

abbrev pub invariant-loop-item : goal.invariant-loop-item
invariant-loop-item g l =
    l.item-items
    ≡ map (g.T.Relocates.moved l.order) (take l.item-index l.initial.item-items)
    ++ drop l.item-index l.initial.item-items
