-- Texts that are written from their end into a buffer.
use Rattle.std.specs.Prelude.{◌≡◌, ◌+◌, ◌++◌, ℕ, List, length, drop}

-- A text was written before the place `end`: it begins at `at`, and what stood from `end` on still
-- stands behind it.
pub record Precedes (old new : List ℕ) (end at : ℕ) (text : List ℕ) : Type 0 where
  pub place : at + length text ≡ end
  pub long : length new ≡ length old
  pub stands : drop at new ≡ text ++ drop end old
