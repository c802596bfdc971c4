-- Names of a table that have at most eighteen bytes.
use Rattle.std.proofs.Common.{◌≡◌, ◌≤◌, ℕ, Bool, true, false, List, [], ◌∷◌, length, Option, Some, IfSome}
use Rattle.std.specs.Prelude.{nat_le, ◌==◌, ◌&&◌, if◌then◌else◌}
use Rattle.std.proofs.lemmas.Bool.{and_parts, leb-true}
use Rattle.elf_types.specs.Names.{name_in}

-- each name of a table has at most eighteen bytes
abbrev pub are_short : List (ℕ × List ℕ) → Bool
are_short [] = true
are_short (row ∷ rows) = nat_le (length row.1) 18 && are_short rows

abbrev pub IsShort : Option (List ℕ) → Type 0
IsShort name = IfSome name (λ t. length t ≤ 18)

pub short_in : (rows : List (ℕ × List ℕ)) (n : ℕ) → are_short rows ≡ true → IsShort (name_in rows n)
short_in [] n all = tt
short_in (row ∷ rows) n all =
    let both = and_parts (nat_le (length row.1) 18) (are_short rows) all in
    by_test (row.0 == n) (leb-true (length row.1) 18 both.0) (short_in rows n both.1)
  where
    by_test : (t : Bool) → length row.1 ≤ 18 → IsShort (name_in rows n)
        → IsShort (if t then Some row.1 else name_in rows n)
    by_test true this others = this
    by_test false this others = others
