-- Which words of a list a command takes.
use Rattle.std.specs.Prelude.{List, [], ◌∷◌, ℕ, Option, Some, None}
use Rattle.std.specs.List.{last_or}

-- of several option-arguments of one letter the last counts
unfoldable pub last : {X : Type 0} → List X → Option X
last xs = last_or None xs

unfoldable pub only_one : List (List ℕ) → Option (List ℕ)
only_one (word ∷ []) = Some word
only_one _ = None

unfoldable pub only_two : List (List ℕ) → Option (List ℕ × List ℕ)
only_two (first ∷ second ∷ []) = Some (first, second)
only_two _ = None
