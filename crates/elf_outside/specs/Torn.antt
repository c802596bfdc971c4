-- What a failed write of a file or a device may leave, whatever it writes.
use Rattle.std.specs.Prelude.{◌≡◌, ◌⊎◌, ℕ, ◌<◌, List, length, slice_index}

-- each byte that is there is the old one or the new one of its place. Past the old bytes, where the
-- file was lengthened, the old one counts as 0.
abbrev pub AreOldOrNew : List ℕ → List ℕ → List ℕ → Type 0
AreOldOrNew old new held =
    (k : ℕ) → k < length held
    → (slice_index held k ≡ slice_index old k)
    ⊎ ((k < length new) × (slice_index held k ≡ slice_index new k))

-- the length is the old one or the new one, and so is each byte
pub record IsTorn (old new held : List ℕ) : Type 0 where
  pub len : (length held ≡ length old) ⊎ (length held ≡ length new)
  pub each : AreOldOrNew old new held
