-- Bytes up to their last NUL (gABI chapter 4, "String Table").
use Rattle.std.specs.Prelude.{◌≡◌, ◌≢◌, ◌⊎◌, ℕ, ◌-◌, ◌<◌, ◌≤◌, List, length, take, slice_index, Option, IfSome}

-- so many bytes stand up to the last NUL, which is one of them; none where there is no NUL
pub record IsLastEnd (bytes : List ℕ) (n : ℕ) : Type 0 where
  pub within : n ≤ length bytes
  pub nul : 0 < n → slice_index bytes (n - 1) ≡ 0
  pub free : (k : ℕ) → n ≤ k → k < length bytes → slice_index bytes k ≢ 0

-- so many, where the last NUL was looked for
abbrev pub IsEndNoted : List ℕ → Option ℕ → Type 0
IsEndNoted bytes ended = IfSome ended (IsLastEnd bytes)

-- bytes up to their last NUL
pub record IsEnded (bytes front : List ℕ) : Type 0 where
  pub count : ℕ
  pub last : IsLastEnd bytes count
  pub is : front ≡ take count bytes

-- those, or all of them
abbrev pub IsEndedFront : List ℕ → List ℕ → Type 0
IsEndedFront bytes front = (front ≡ bytes) ⊎ IsEnded bytes front
