use Rattle.std.proofs.Common.{◌≡◌, ◌<◌, ℕ, true, get_or}
use Rattle.rebuild_changes.specs.declared.changes.NameBytes.{NameBytes}
use Rattle.rebuild_select.specs.Sought.Names.{is_sought}
use Rattle.rebuild_copy.proofs.indexing.seek_changed.Given as goal

abbrev pub invariant-loop-change : goal.invariant-loop-change
invariant-loop-change l = (k : ℕ) (d : NameBytes) → k < l.change-index
    → is_sought l.sought (get_or l.changes k d).name ≡ true
