-- Tables whose rows are found by a text.
use Rattle.std.specs.Prelude.{ℕ, List, [], ◌∷◌, Option, Some, None, bytes_eq, if◌then◌else◌}

-- the value that a table gives a text: that of its first row with the text
abbrev pub value_in : {X : Type 0} → List (List ℕ × X) → List ℕ → Option X
value_in [] word = None
value_in (row ∷ rows) word = if bytes_eq word row.0 then Some row.1 else value_in rows word
