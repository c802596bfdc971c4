-- Names that are looked for.
use Rattle.std.specs.Prelude.{◌≡◌, ◌≤◌, ℕ, Bool, true, List, [], ◌∷◌, length}
use Rattle.std.specs.List.{list_any}
use Rattle.std.specs.Str.{bytes_eq}
use Rattle.std.specs.Borrow.{Bor}

-- whether a name is one of some names
abbrev pub is_sought : List (List ℕ) → List ℕ → Bool
is_sought names name = list_any (λ wanted. bytes_eq name wanted) names

-- none of them is longer
abbrev pub AreUpTo : ℕ → List (List ℕ) → Type 0
AreUpTo longest names = (name : List ℕ) → is_sought names name ≡ true → length name ≤ longest

-- the names that stand behind references
abbrev pub lent_names : List (Bor (List ℕ)) → List (List ℕ)
lent_names [] = []
lent_names (k ∷ ks) = k.now ∷ lent_names ks
