-- Bytes that stand together among others.
use Rattle.std.specs.Prelude.{◌≡◌, ℕ, ◌<◌, ◌≤◌, List, ◌++◌, length, take, drop, Option, Some, None}

-- the bytes from a place on begin with these, of which there is one at least
pub record IsPieceAt (at : ℕ) (all piece : List ℕ) : Type 0 where
  pub some : 0 < length piece
  pub rest : List ℕ
  pub is : drop at all ≡ piece ++ rest

-- so many first bytes of a buffer are those from a place on
pub record IsCopiedToBuffer (all : List ℕ) (at : ℕ) (old new : List ℕ) (done : ℕ) : Type 0 where
  pub within : done ≤ length old
  pub long : length new ≡ length old
  pub same : take done new ≡ take done (drop at all)

-- more first bytes are those from a place on, or else not all of them are
abbrev pub IsComparedTo : List ℕ → ℕ → List ℕ → ℕ → Option ℕ → Type 0
IsComparedTo all at bytes done (Some next) =
    (done < next) × (next ≤ length bytes) × (take next bytes ≡ take next (drop at all))
IsComparedTo all at bytes done None = bytes ≡ take (length bytes) (drop at all) → ⊥
