use Rattle.std.proofs.Common.{◌≡◌, map, take}
use Rattle.rebuild_changes.specs.Stated.{bits_pair}
use Rattle.copy_tool.proofs.changes.flags_of_each.Given as goal

abbrev pub invariant-loop-one : goal.invariant-loop-one
invariant-loop-one l =
    map bits_pair l.list ≡ map (λ f. (f.name, f.bits)) (take l.one-index l.each)
