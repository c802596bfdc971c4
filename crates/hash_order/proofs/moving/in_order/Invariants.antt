use Rattle.std.proofs.Common.{◌≡◌, take}
use Rattle.symbol_lookup.specs.hash_model.Reordered.{in_order}
use Rattle.hash_order.proofs.moving.in_order.Given as goal

abbrev pub invariant-loop-k : goal.invariant-loop-k
invariant-loop-k g l = l.moved ≡ in_order (take l.k l.order) l.items
