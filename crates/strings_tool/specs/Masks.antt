-- Masks: a bit for each of some bytes, the lowest for the first.
use Rattle.std.specs.Prelude.{◌≡◌, ◌+◌, ◌<◌, ◌≤◌, ◌↔◌, ℕ, List, map, length, take, drop}
use Rattle.std.specs.Int.{bit_at}
use Rattle.std.specs.List.{prefix_len}
use Rattle.std.specs.Simd.Lanes.{mask_l}
use Rattle.strings_tool.specs.Runs.{is_printable}
use Rattle.strings_tool.specs.Skips.{Skips}

-- the mask whose bit i says whether byte i is printable
abbrev pub printable_mask : List ℕ → ℕ
printable_mask bytes = mask_l (map is_printable bytes)

-- the bits of `starts` are the places at which so many set bits of a mask begin, one behind another
abbrev pub BeginRuns : ℕ → ℕ → ℕ → Type 0
BeginRuns mask count starts = (i : ℕ) → (bit_at starts i ≡ 1) ↔ ((j : ℕ) → j < count → bit_at mask (i + j) ≡ 1)

-- from a place on so many bits of a mask are set, one behind another
abbrev pub AreSet : ℕ → ℕ → ℕ → Type 0
AreSet mask from count = (j : ℕ) → j < count → bit_at mask (from + j) ≡ 1

-- a mask is that of the first `count` of some bytes, 64 at most
pub record ShowsBytes (mask count : ℕ) (bytes : List ℕ) : Type 0 where
  pub few : count ≤ 64
  pub there : count ≤ length bytes
  pub is : mask ≡ printable_mask (take count bytes)

-- the place of the first long run of some bytes that is long within the first `count`, and how many
-- of these it has; where they are the last ones, it goes on with the bytes that follow
pub record IsFirstRun (least count : ℕ) (bytes : List ℕ) (r : ℕ × ℕ) : Type 0 where
  pub within : r.0 + r.1 ≤ count
  pub long : least ≤ r.1
  pub skips : Skips least bytes r.0
  pub ended : r.0 + r.1 < count → prefix_len is_printable (drop r.0 bytes) ≡ r.1
  pub goes_on : r.0 + r.1 ≡ count
      → prefix_len is_printable (drop r.0 bytes) ≡ r.1 + prefix_len is_printable (drop count bytes)
