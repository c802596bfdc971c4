-- Words for those who write bytes at places: what stands where, blocks in a line with what lies
-- between them, and what a device may hold while it is written.
use Rattle.std.specs.Prelude.{◌≡◌, ℕ, ◌-◌, ◌≤◌, true, false, List, [], ◌∷◌, ◌++◌, length, take, drop, map, slice_index}
use Rattle.std.specs.List.{range_with_len}
use Rattle.elf_object.specs.elf_outside.Torn.{AreOldOrNew}
use Rattle.elf_object.specs.Blocks.{Block, block_end, is_covered, spread}

-- a piece of bytes stands in bytes at a place
abbrev pub StandsAt : List ℕ → ℕ → List ℕ → Type 0
StandsAt bytes at piece = take (length piece) (drop at bytes) ≡ piece

-- the block stands there
abbrev pub HoldsBlock : List ℕ → Block → Type 0
HoldsBlock bytes b = StandsAt bytes b.at b.bytes

-- ---- Blocks in a line

-- blocks one behind the other, between a place and an end
abbrev pub AreInLine : ℕ → ℕ → List Block → Type 0
AreInLine end from [] = from ≤ end
AreInLine end from (b ∷ bs) = (from ≤ b.at) × AreInLine end (block_end b) bs

-- the bytes from a place to an end: those of blocks in a line, and others between them
abbrev pub in_line : ℕ → (ℕ → ℕ) → ℕ → List Block → List ℕ
in_line end otherwise from [] = map otherwise (range_with_len from (end - from))
in_line end otherwise from (b ∷ bs) =
    map otherwise (range_with_len from (b.at - from))
    ++ (b.bytes ++ in_line end otherwise (block_end b) bs)

-- the places between them
abbrev pub gap_places : ℕ → ℕ → List Block → List ℕ
gap_places end from [] = range_with_len from (end - from)
gap_places end from (b ∷ bs) = range_with_len from (b.at - from) ++ gap_places end (block_end b) bs

-- while bytes are written in order: from a place on they are blocks in a line, and others between
-- them
pub record IsLeft (end : ℕ) (otherwise : ℕ → ℕ) (bytes : List ℕ) (from : ℕ) (blocks : List Block)
    : Type 0 where
  pub left : drop from bytes ≡ in_line end otherwise from blocks
  pub line : AreInLine end from blocks

-- ---- A device that is written. Past its end a byte counts as 0.

-- so many bytes, with blocks written over them
unfoldable pub patched : ℕ → List Block → List ℕ → List ℕ
patched n blocks bytes = spread n (slice_index bytes) blocks

-- while blocks are written over a device that has so many bytes: each byte is the old one or the
-- new one, and those blocks that are not left have their new bytes
pub record IsUnderWay (old new held : List ℕ) (size : ℕ) (blocks left : List Block) : Type 0 where
  pub len : length held ≡ size
  pub each : AreOldOrNew old new held
  pub done : (k : ℕ) → is_covered blocks k ≡ true → is_covered left k ≡ false
      → slice_index held k ≡ slice_index new k
