use Rattle.std.proofs.Common.{◌≡◌, ◌++◌, map, take, drop}
use Rattle.elf_calls_apply.proofs.items.adding.add_to_list.Given as goal

abbrev pub invariant-loop-item : goal.invariant-loop-item
invariant-loop-item g l = l.item-items ≡ map (g.T.Adds.plus l.n) (take l.item-index l.initial.item-items) ++ drop l.item-index l.initial.item-items
