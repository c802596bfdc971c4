-- The lines of a list.
use Rattle.std.specs.Prelude.{◌++◌, ◌+◌, ℕ, List, [], ◌∷◌}

-- a line for each item, by its number from i on
unfoldable pub numbered_lines : {X : Type 0} → (ℕ → X → List ℕ) → ℕ → List X → List ℕ
numbered_lines line i [] = []
numbered_lines line i (x ∷ xs) = line i x ++ numbered_lines line (i + 1) xs
