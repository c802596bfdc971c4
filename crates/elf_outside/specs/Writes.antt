-- What a write has done, and what a failed one may have done. Where the object of the outside tells
-- no bytes, these words say that it still tells none.
use Rattle.std.specs.Prelude.{◌≡◌, ◌⊎◌, ℕ, ◌+◌, ◌-◌, ◌<◌, ◌≤◌, ◌++◌, List, Option, length, take, drop, replicate, slice_index, IfSome}
use Rattle.std.specs.Option.{option_map}

-- the bytes with a piece put over them at a place
abbrev pub written_over : List ℕ → ℕ → List ℕ → List ℕ
written_over bytes at piece = (take at bytes ++ piece) ++ drop (at + length piece) bytes

-- the bytes cut to a length, or lengthened to it by zeros
abbrev pub resized : ℕ → List ℕ → List ℕ
resized n bytes = take n bytes ++ replicate (n - length bytes) 0

-- the piece was appended
abbrev pub Appends : Option (List ℕ) → Option (List ℕ) → List ℕ → Type 0
Appends old new piece = new ≡ option_map (λ bytes. bytes ++ piece) old

-- a front of the piece was appended
abbrev pub AppendsFront : Option (List ℕ) → Option (List ℕ) → List ℕ → Type 0
AppendsFront old new piece = (n : ℕ) × Appends old new (take n piece)

-- the piece was put over the bytes at a place
abbrev pub WritesOver : Option (List ℕ) → Option (List ℕ) → ℕ → List ℕ → Type 0
WritesOver old new at piece = new ≡ option_map (λ bytes. written_over bytes at piece) old

-- each byte of the range is the old one or the new one, and each other byte is the old one
pub record IsTornBy (old new : List ℕ) (at : ℕ) (piece : List ℕ) : Type 0 where
  pub same_len : length new ≡ length old
  pub old_or_new : (k : ℕ) →
      (slice_index new k ≡ slice_index old k)
      ⊎ ((at ≤ k) × (k < at + length piece) × (slice_index new k ≡ slice_index piece (k - at)))

-- some bytes of the piece may have been put over the bytes at a place
abbrev pub TearsOver : Option (List ℕ) → Option (List ℕ) → ℕ → List ℕ → Type 0
TearsOver old new at piece =
    (torn : List ℕ) × (new ≡ option_map (λ _. torn) old)
    × IfSome old (λ bytes. IsTornBy bytes torn at piece)

-- the file has the length n
pub record Resizes (size_old size_new : ℕ) (old new : Option (List ℕ)) (n : ℕ) : Type 0 where
  pub len : size_new ≡ n
  pub bytes : new ≡ option_map (resized n) old

-- the file has the length n, or is as before
abbrev pub ResizesOrNot : ℕ → ℕ → Option (List ℕ) → Option (List ℕ) → ℕ → Type 0
ResizesOrNot size_old size_new old new n =
    ((size_new ≡ size_old) × (new ≡ old)) ⊎ Resizes size_old size_new old new n

-- the first n bytes of the piece stand after the last byte of the file
pub record Lengthens (size_old size_new : ℕ) (old new : Option (List ℕ))
    (piece : List ℕ) : Type 0 where
  pub len : size_new ≡ size_old + length piece
  pub bytes : Appends old new piece

-- a front of the piece stands after the last byte of the file
abbrev pub LengthensByFront : ℕ → ℕ → Option (List ℕ) → Option (List ℕ) → List ℕ → Type 0
LengthensByFront size_old size_new old new piece =
    (n : ℕ) × Lengthens size_old size_new old new (take n piece)
