use Rattle.std.proofs.Common.{◌≡◌, ℕ, List, take}
use Rattle.rebuild_select.specs.Sought.Names.{is_sought}
use Rattle.rebuild_select.proofs.names.add_names.Given as goal

abbrev pub invariant-loop-name : goal.invariant-loop-name
invariant-loop-name l =
    (q : List ℕ) → is_sought l.sought q ≡ is_sought (take l.name-index l.names) q
