use Rattle.std.proofs.Common.{◌≡◌, ◌<◌, ℕ, List, true, get_or}
use Rattle.rebuild_changes.specs.declared.changes.NameBits.{NameBits}
use Rattle.rebuild_select.specs.Sought.Names.{is_sought}
use Rattle.rebuild_copy.proofs.indexing.seek_flagged.Given as goal

abbrev pub invariant-loop-change : goal.invariant-loop-change
invariant-loop-change l =
    ((k : ℕ) (d : NameBits) → k < l.change-index
    → is_sought l.sought (get_or l.changes k d).name ≡ true)
    × ((q : List ℕ) → is_sought l.initial.sought q ≡ true → is_sought l.sought q ≡ true)
