use Rattle.std.proofs.Common.{◌==◌, ℕ, sym, ap, ◌∙◌}
use Rattle.std.proofs.lemmas.List.{length-map}
use Rattle.rebuild_changes.specs.Stated.{bytes_pair}
use Rattle.rebuild_edits.proofs.building.holds_none.Goals as goal

pub returns : goal.returns
returns c =
    c.is_empty.ensures ∙ ap (λ (n : ℕ). n == 0) (sym (length-map c.args.list.now bytes_pair))
