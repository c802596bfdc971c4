-- What a call leaves of a source.
use Rattle.std.specs.Prelude.{◌≡◌, ℕ, List, Option}

-- the length, the bytes and the rest of a source are as before
pub record LeavesBy {S : Type 0} (size : S → ℕ) (holds : S → Option (List ℕ))
    (rest : S → List (List ℕ)) (old new : S) : Type 0 where
  pub same_len : size new ≡ size old
  pub same_bytes : holds new ≡ holds old
  pub same_rest : rest new ≡ rest old
