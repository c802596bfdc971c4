-- A string table (gABI chapter 4, "String Table"): its first byte is a NUL, and each string in it
-- ends with a NUL. A string is named by its offset from the table's first byte, and offset 0 names
-- the empty string.
use Rattle.std.specs.Prelude.{ℕ, List, [], ◌∷◌, ◌++◌, length, drop, filter, take_while, not, ◌==◌}
use Rattle.std.specs.List.{flat_map}
use Rattle.std.specs.Str.{bytes_eq}

-- the names without those equal to one
abbrev pub others : List ℕ → List (List ℕ) → List (List ℕ)
others name names = filter (λ other. not (bytes_eq name other)) names

-- the names that are not empty, each where it is first used
unfoldable pub distinct : List (List ℕ) → List (List ℕ)
distinct [] = []
distinct ([] ∷ names) = distinct names
distinct ((b ∷ bs) ∷ names) = (b ∷ bs) ∷ others (b ∷ bs) (distinct names)

-- strings one after another, each with its NUL
unfoldable pub strings : List (List ℕ) → List ℕ
strings names = flat_map (λ name. name ++ 0 ∷ []) names

-- the table of the names: a NUL, and the distinct names in order of first use, each with its NUL
unfoldable pub table : List (List ℕ) → List ℕ
table names = 0 ∷ strings (distinct names)

-- the names before the first use of one
abbrev pub before : List ℕ → List (List ℕ) → List (List ℕ)
before name names = take_while (λ other. not (bytes_eq name other)) names

-- the place of a name in the table: that of the first NUL for the empty name, and else the end of
-- the strings that are first used before it
unfoldable pub place_of : List ℕ → List (List ℕ) → ℕ
place_of [] names = 0
place_of (b ∷ bs) names = length (table (before (b ∷ bs) names))

-- the string that an offset names: the bytes from there up to the first NUL
unfoldable pub string_at : List ℕ → ℕ → List ℕ
string_at bytes offset = take_while (λ b. not (b == 0)) (drop offset bytes)
