-- Bytes at places: an image and the data of a section are spread from blocks, each of which stands
-- at its place, whatever the order in which they are written.
use Rattle.std.specs.Prelude.{ℕ, ◌+◌, ◌-◌, List, [], ◌∷◌, length, map, slice_index, Bool, ◌&&◌, ◌||◌, ◌==◌, nat_lt, nat_le, if◌then◌else◌}
use Rattle.std.specs.List.{range_with_len, list_any}
use Rattle.std.specs.Str.{bytes_eq}
use Rattle.elf_layout.specs.Layout.{rounded_up}

-- bytes that stand at a place
pub record Block : Type 0 where
  pub at : ℕ
  pub bytes : List ℕ

-- the place after its last byte
unfoldable pub block_end : Block → ℕ
block_end b = b.at + length b.bytes

-- whether one of its bytes stands at the place
unfoldable pub block_covers : Block → ℕ → Bool
block_covers b k = nat_le b.at k && nat_lt k (block_end b)

unfoldable pub is_covered : List Block → ℕ → Bool
is_covered blocks k = list_any (λ b. block_covers b k) blocks

-- the byte at a place: that of the block that block_covers it, or else another
unfoldable pub byte_over : (ℕ → ℕ) → List Block → ℕ → ℕ
byte_over otherwise [] k = otherwise k
byte_over otherwise (b ∷ bs) k =
    if block_covers b k then slice_index b.bytes (k - b.at) else byte_over otherwise bs k

-- so many bytes, with the blocks at their places
unfoldable pub spread : ℕ → (ℕ → ℕ) → List Block → List ℕ
spread n otherwise blocks = map (byte_over otherwise blocks) (range_with_len 0 n)

-- blocks with their alignments, one after the other: each at the end so far, rounded up
unfoldable pub stacked : ℕ → List (ℕ × List ℕ) → List Block
stacked end [] = []
stacked end (p ∷ ps) =
    record { at = rounded_up end p.0; bytes = p.1 } ∷ stacked (rounded_up end p.0 + length p.1) ps

-- the end of the last block
unfoldable pub last_end : ℕ → List Block → ℕ
last_end end [] = end
last_end end (b ∷ bs) = last_end (block_end b) bs

-- whether two extents are alike: empty ones are, wherever they stand
unfoldable pub same_extent : ℕ → ℕ → ℕ → ℕ → Bool
same_extent a m b n = (a == b && m == n) || (m == 0 && n == 0)

-- whether two extents share a place
unfoldable pub extents_meet : ℕ → ℕ → ℕ → ℕ → Bool
extents_meet a m b n = nat_lt 0 m && nat_lt 0 n && nat_lt a (b + n) && nat_lt b (a + m)

-- whether two blocks have the same place and the same bytes
unfoldable pub same_block : Block → Block → Bool
same_block a b = same_extent a.at (length a.bytes) b.at (length b.bytes) && bytes_eq a.bytes b.bytes
