use Rattle.std.proofs.Common.{◌≡◌, ◌+◌, ℕ, List, map, drop}
use Rattle.rebuild_edits.specs.Texts.{AreTextsAdded}
use Rattle.rebuild_edits.proofs.building.place_added.Given as goal

abbrev pub invariant-loop-change : goal.invariant-loop-change
invariant-loop-change l =
    (texts : List (List ℕ)) (n : ℕ) → drop n texts ≡ map (λ a. a.name) l.adds
    → AreTextsAdded texts l.initial.making.strings l.initial.making.places n
    → AreTextsAdded texts l.making.strings l.making.places (n + l.change-index)
