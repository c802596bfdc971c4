-- What a window over a range of a source tells.
use Rattle.std.proofs.Common.{◌≡◌, ◌+◌, ◌≤◌, ℕ, [], ◌∷◌, List, Option, Some, None, IfSome, length, take, drop, arith}
use Rattle.std.specs.Option.{option_map}
use Rattle.std.proofs.lemmas.List.{length-drop, length-take-le}

-- the bytes of the range, where the inner source tells its bytes
abbrev pub range_of : ℕ → ℕ → Option (List ℕ) → Option (List ℕ)
range_of at len inner = option_map (λ bytes. take len (drop at bytes)) inner

-- the bytes of the inner source after their number, and nothing where it does not tell them
abbrev pub counted_bytes : Option (List ℕ) → List ℕ
counted_bytes None = []
counted_bytes (Some bytes) = length bytes ∷ bytes

-- the place in the inner source and its length, its bytes, and its own rest
abbrev pub window_rest : ℕ → ℕ → Option (List ℕ) → List (List ℕ) → List (List ℕ)
window_rest at size bytes rest = (at ∷ size ∷ []) ∷ counted_bytes bytes ∷ rest

-- a range that lies in the whole has its length: the law of a window's length
pub range_sized : (inner : Option (List ℕ)) (at len size : ℕ) → at + len ≤ size
    → IfSome inner (λ bytes. length bytes ≡ size)
    → IfSome (range_of at len inner) (λ bytes. length bytes ≡ len)
range_sized None at len size in_range sized = tt
range_sized (Some bytes) at len size in_range sized =
    length-take-le len (drop at bytes) (omega (arith, length-drop at bytes, sized))
