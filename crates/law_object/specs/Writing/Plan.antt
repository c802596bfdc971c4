-- The plan of a write (elf_update): the parts of an image that are not empty, in the order of their
-- places, and the gaps between them.
use Rattle.std.specs.Prelude.{slice_index_or, ℕ, ◌+◌, ◌-◌, ◌==◌, ◌&&◌, Bool, nat_lt, min, max, List, [], ◌∷◌, ◌++◌, length, sum_by, if◌then◌else◌}
use Rattle.std.specs.List.{filter, list_any}
use Rattle.std.proofs.Math.ListN.{replicate}
use Rattle.elf_object.specs.elf_layout.Meeting.{sorted_by}
use Rattle.elf_object.specs.Blocks.{Block, block_end, extents_meet}
use Rattle.elf_object.specs.Object.{Object, Home, section_at, has_file_bytes, home_is_clean}
use Rattle.elf_object.specs.Open.{no_block}
use Rattle.elf_object.specs.Layout.{placed}
use Rattle.elf_object.specs.Image.{part_blocks, kept_base, image_length}
use Rattle.elf_object.specs.Changed.{header_changed, segments_changed, section_changed, table_changed, changed_blocks}
use Rattle.elf_object.specs.Due.{home_due}

abbrev pub block_has_bytes : Block → Bool
block_has_bytes b = nat_lt 0 (length b.bytes)

-- blocks that are not empty, by place
unfoldable pub in_order : List Block → List Block
in_order blocks = sorted_by (λ b. b.at) (filter block_has_bytes blocks)

-- the parts of the image that are not empty, by place
unfoldable pub plan : Object → List Block
plan o = in_order (part_blocks (placed o))

-- the part with that rank, its place in the order of the parts
unfoldable pub block_of_rank : Object → ℕ → Block
block_of_rank o rank = slice_index_or (part_blocks (placed o)) rank no_block

-- ---- What is asked of a source, part by part

-- what the bytes of a section in the file are due: its home, where its home piece is clean
unfoldable pub section_due : Object → List Bool → ℕ → ℕ
section_due o loaded s =
    if has_file_bytes s (section_at o s) && home_is_clean (section_at o s)
    then home_due o loaded s else 0

-- what the part with that rank is due: the ELF header has rank 0, the program header table 1, a
-- section its number and 1, and the section header table the next; only sections are due anything
unfoldable pub rank_due : Object → List Bool → ℕ → ℕ
rank_due o loaded rank = section_due o loaded (rank - 1)

-- ---- Gaps: base bytes below the end of those that count, and then the fill byte

-- how many places from one to an end are below a length
abbrev pub places_below : ℕ → ℕ → ℕ → ℕ
places_below kept from end = min end kept - from

-- how many places between blocks in a line are
abbrev pub base_gaps : ℕ → ℕ → ℕ → List Block → ℕ
base_gaps kept end from [] = places_below kept from end
base_gaps kept end from (b ∷ bs) = places_below kept from b.at + base_gaps kept end (block_end b) bs

-- the fill of a gap: from the length on, where it begins below it
abbrev pub fill_block : ℕ → ℕ → ℕ → ℕ → Block
fill_block kept fill from end = record {
  at = max from kept;
  bytes = replicate (end - max from kept) fill;
}

-- the fill of the gaps between blocks in a line
abbrev pub fill_between : ℕ → ℕ → ℕ → ℕ → List Block → List Block
fill_between kept fill end from [] = fill_block kept fill from end ∷ []
fill_between kept fill end from (b ∷ bs) =
    fill_block kept fill from b.at ∷ fill_between kept fill end (block_end b) bs

-- the fill of an image
unfoldable pub fill_blocks : Object → List Block
fill_blocks o = fill_between (kept_base o) o.fill (image_length o) 0 (plan o)

-- what an update in place writes: the parts that change, and the fill
unfoldable pub written_blocks : Object → List Block
written_blocks o = changed_blocks o ++ fill_blocks o

-- whether a home shares a place with one of some blocks
unfoldable pub meets_some : Home → List Block → Bool
meets_some home blocks = list_any (λ b. extents_meet home.at home.len b.at (length b.bytes)) blocks

-- ---- Running sums: how many bytes of blocks stand below a place

abbrev pub bytes_below : ℕ → Block → ℕ
bytes_below x b = min x (block_end b) - b.at

unfoldable pub written_below : List Block → ℕ → ℕ
written_below blocks x = sum_by (bytes_below x) blocks

-- whether the part with that rank changes
unfoldable pub rank_changed : Object → ℕ → Bool
rank_changed o rank =
    if rank == 0 then header_changed o
    else (if rank == 1 then segments_changed o
    else (if nat_lt (rank - 1) (length o.sections) then section_changed o (rank - 1)
    else table_changed o))

-- how many bytes of the part with that rank an update in place writes below a place
unfoldable pub rank_written_below : Object → ℕ → ℕ → ℕ
rank_written_below o x rank =
    if rank_changed o rank then bytes_below x (block_of_rank o rank) else 0
