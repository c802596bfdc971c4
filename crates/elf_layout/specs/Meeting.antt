-- Which parts of an image share a byte.
use Rattle.std.specs.Prelude.{ℕ, ◌+◌, ◌<◌, nat_lt, nat_le, List, [], ◌∷◌, map, Bool, IsTrue, ◌&&◌, if◌then◌else◌, Option, None, slice_get, All}
use Rattle.std.specs.List.{list_any, filter, enumerate_from, AllPairs}
use Rattle.std.specs.Option.{option_map}
use Rattle.elf_types.specs.declared.records.Part.{Part}
use Rattle.elf_layout.specs.declared.parts.PartAt.{PartAt}

-- the part is not empty: the image holds bytes of it
unfoldable pub has_bytes : PartAt → Bool
has_bytes p = p.filled && nat_lt 0 p.len

-- the place after its last byte
unfoldable pub end_of : PartAt → ℕ
end_of p = p.at + p.len

-- neither is empty, and each begins before the other ends: they share a byte
unfoldable pub meets : PartAt → PartAt → Bool
meets a b = has_bytes a && has_bytes b && nat_lt a.at (end_of b) && nat_lt b.at (end_of a)

-- the byte of the image at a place is one of the part's
unfoldable pub covers : PartAt → ℕ → Bool
covers p n = p.filled && nat_le p.at n && nat_lt n (end_of p)

-- no byte of the image is one of two parts
abbrev pub IsApart : List PartAt → Type 0
IsApart ps = AllPairs (λ p q. (n : ℕ) → IsTrue (covers p n) → IsTrue (covers q n) → ⊥) ps

-- the parts have no byte at a length or behind it
abbrev pub LiesWithin : ℕ → List PartAt → Type 0
LiesWithin length ps = All (λ p. (n : ℕ) → IsTrue (covers p n) → n < length) ps

-- an item put among items by a key, before those with the same key
abbrev pub inserted_by : {X : Type 0} → (X → ℕ) → X → List X → List X
inserted_by key x [] = x ∷ []
inserted_by key x (y ∷ ys) = if nat_le (key x) (key y) then x ∷ y ∷ ys else y ∷ inserted_by key x ys

-- the items by a key, and those with the same key in the order of the list
abbrev pub sorted_by : {X : Type 0} → (X → ℕ) → List X → List X
sorted_by key [] = []
sorted_by key (x ∷ xs) = inserted_by key x (sorted_by key xs)

-- the parts that are not empty with their ranks, which count up from one on
unfoldable pub ranked_from : ℕ → List PartAt → List (ℕ × PartAt)
ranked_from rank ps = filter (λ x. has_bytes x.1) (enumerate_from rank ps)

-- the same by position and then by rank. A part's rank is its place in the list.
abbrev pub ranked_listed : List PartAt → List (ℕ × PartAt)
ranked_listed ps = sorted_by (λ x. x.1.at) (ranked_from 0 ps)

-- their ranks alone
unfoldable pub ranks_by_position : List PartAt → List ℕ
ranks_by_position ps = map (λ x. x.0) (ranked_listed ps)

-- the parts that are not empty, by position and then by rank
unfoldable pub parts_by_position : List PartAt → List PartAt
parts_by_position ps = sorted_by (λ p. p.at) (filter has_bytes ps)

-- the first that a later one meets, and the one next after it
unfoldable pub first_met : List PartAt → Option (Part × Part)
first_met [] = None
first_met (a ∷ ps) =
    if list_any (meets a) ps then option_map (λ b. (a.part, b.part)) (slice_get ps 0)
    else first_met ps

-- two parts that share a byte
unfoldable pub overlap_of : List PartAt → Option (Part × Part)
overlap_of ps = first_met (parts_by_position ps)
