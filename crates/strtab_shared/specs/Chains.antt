-- What finds the names of a table in the making, each by the index of its first use: the first
-- name with each hash is noted by its hash, and each other one, which follows it, stands in a chain
-- by its digest.
use Rattle.std.specs.Prelude.{◌≡◌, ℕ, suc, ◌<◌, Option, Some, None}

-- one past an index, or 0 for none
abbrev pub past : Option ℕ → ℕ
past (Some i) = suc i
past None = 0

-- an index is the last one below a bound of which something holds, or there is none
pub record IsLast (holds : ℕ → Type 0) (bound : ℕ) (last : Option ℕ) : Type 0 where
  pub one : (i : ℕ) → last ≡ Some i → (i < bound) × holds i
  pub others : (i : ℕ) → i < bound → holds i → i < past last

-- a name that is not the first with its hash
abbrev pub FollowsSameHash : (ℕ → Option ℕ) → (ℕ → ℕ) → ℕ → Type 0
FollowsSameHash first hash i = first (hash i) ≡ Some i → ⊥

-- and has a digest
abbrev pub FollowsWith : (ℕ → Option ℕ) → (ℕ → ℕ) → (ℕ → ℕ) → ℕ → ℕ → Type 0
FollowsWith first hash digest d i = FollowsSameHash first hash i × (digest i ≡ d)

-- each name is noted or stands in its chain
pub record IsIndexed (count : ℕ) (hash digest : ℕ → ℕ) (older first newest : ℕ → Option ℕ)
    : Type 0 where
  pub known : (i : ℕ) → i < count → first (hash i) ≡ None → ⊥
  pub below : (h i : ℕ) → first h ≡ Some i → i < count
  pub heads : (d : ℕ) → IsLast (FollowsWith first hash digest d) count (newest d)
  pub links : (i : ℕ) → i < count → FollowsSameHash first hash i
      → IsLast (FollowsWith first hash digest (digest i)) i (older i)
