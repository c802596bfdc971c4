-- Laws on what a write leaves alone, in what order it may write, and what a write that failed
-- leaves (elf_update with ELF_C_WRITE). Each is proved as the contract of a function.
use Rattle.std.specs.Prelude.{◌≡◌, ℕ, ◌+◌, ◌-◌, ◌<◌, ◌≤◌, max, Bool, true, false, not, ◌&&◌, ◌||◌, nat_lt, List, ◌∷◌, ◌++◌, length, map, take, drop, slice_index, slice_get, sum_by, count_by, filter, All, Some, None}
use Rattle.std.proofs.Math.ListN.{replicate}
use Rattle.std.specs.List.{range_with_len}
use Rattle.elf_types.specs.declared.records.Part.TheVariants as part
use Rattle.elf_object.specs.elf_outside.Torn.{IsTorn}
use Rattle.elf_object.specs.Blocks.{Block, block_end, block_covers, is_covered, spread}
use Rattle.elf_object.specs.Object.{is_dirty, Object, Home, section_at, has_file_bytes}
use Rattle.elf_object.specs.Joined.{piece_blocks, pieces_end, file_bytes}
use Rattle.elf_object.specs.elf_layout.Meeting.{ranks_by_position}
use Rattle.elf_object.specs.Layout.{placed_parts, placed}
use Rattle.elf_object.specs.Image.{part_blocks, kept_base, uncovered_byte, image_length, image, is_fill_place}
use Rattle.elf_object.specs.Refusal.{refusal}
use Rattle.elf_object.specs.Settled.{settle}
use Rattle.elf_object.specs.Changed.{changed_blocks, fill_places, changed_bytes, is_disturbed, torn}
use Rattle.elf_object.specs.Due.{homes_due, clean_homes}
use Rattle.elf_object.specs.Valid.{IsObject}
use Rattle.law_object.specs.Laws.{IsTornImage}
use Rattle.law_object.specs.Writing.Lines.{HoldsBlock, AreInLine, in_line, gap_places, patched}
use Rattle.law_object.specs.Writing.Plan.{plan, block_of_rank, rank_due, places_below, base_gaps, fill_blocks, written_blocks, meets_some, written_below, rank_written_below}
use Rattle.law_object.specs.Writing.Marks.{marked_all, moved_pieces}
use Rattle.law_object.specs.Writing.Ready.{IsReady}
use Rattle.law_object.specs.Writing.Based.{IsBased}

-- ---- The parts and the plan

-- no place is a byte of two parts, and each part that is not empty ends within the image
pub record PartsAreApart (o : Object) : Type 0 where
  pub apart : (i j k : ℕ) (a b : Block) → IsReady o → i < j
      → slice_get (part_blocks (placed o)) i ≡ Some a
      → slice_get (part_blocks (placed o)) j ≡ Some b
      → block_covers a k ≡ true → block_covers b k ≡ true → ⊥
  pub within : (i : ℕ) (b : Block) → IsReady o → slice_get (part_blocks (placed o)) i ≡ Some b
      → 0 < length b.bytes → block_end b ≤ image_length o

-- the parts that are not empty stand in a line, by their places, and the image is spread from them:
-- their bytes one behind the other, with what lies between them
pub record PlanIsImage (o : Object) : Type 0 where
  pub line : IsReady o → AreInLine (image_length o) 0 (plan o)
  pub spread : IsReady o → image o ≡ spread (image_length o) (uncovered_byte o) (plan o)
  pub bytes : IsReady o → image o ≡ in_line (image_length o) (uncovered_byte o) 0 (plan o)

-- the plan by the ranks that elf_layout sorts: a part's rank is its place in the order of the parts
abbrev pub PlanByRank : Object → Type 0
PlanByRank o = IsReady o → plan o ≡ map (block_of_rank o) (ranks_by_position (placed_parts o))

-- the fill places are those between the parts from the base bytes that count on; the base bytes in
-- the gaps are as many as an update to a sink is due
pub record GapsAreFill (o : Object) : Type 0 where
  pub places : IsReady o → fill_places o
      ≡ filter (λ k. not (nat_lt k (kept_base o))) (gap_places (image_length o) 0 (plan o))
  pub base : IsReady o
      → count_by (λ k. not (is_covered (part_blocks (placed o)) k)) (range_with_len 0 (kept_base o))
      ≡ base_gaps (kept_base o) (image_length o) 0 (plan o)

-- a writer that asks part by part, in the order of the plan, is due what the clean homes are due
-- in the order of their numbers
abbrev pub PlanDue : Object → Type 0
PlanDue o =
    (loaded : List Bool) → IsReady o
    → sum_by (rank_due o loaded) (ranks_by_position (placed_parts o))
    ≡ homes_due o loaded (clean_homes o)

-- ---- Writing in place

-- a place of the image in no part that changes and no gap that is filled has the base's byte
abbrev pub LeftStands : Object → Type 0
LeftStands o =
    (k : ℕ) → IsReady o → IsBased o → k < image_length o
    → is_covered (changed_blocks o) k ≡ false → is_fill_place o k ≡ false
    → (k < length o.base) × (slice_index (image o) k ≡ slice_index o.base k)

-- what is written stands in the image, and is as many bytes as said
pub record WrittenStands (o : Object) : Type 0 where
  pub stands : IsReady o → All (HoldsBlock (image o)) (written_blocks o)
  pub bytes : IsReady o → sum_by (λ b. length b.bytes) (written_blocks o) ≡ changed_bytes o

-- a device that begins with the base, cut or lengthened to the image's length, is the image once
-- the parts that change and the fill are written over it, in whatever order, and in whatever
-- further blocks of the image
abbrev pub InPlace : Object → Type 0
InPlace o =
    (blocks : List Block) (held : List ℕ) → IsReady o → IsBased o
    → All (HoldsBlock (image o)) blocks
    → ((k : ℕ) → is_covered (written_blocks o) k ≡ true → is_covered blocks k ≡ true)
    → take (length o.base) held ≡ o.base → patched (image_length o) blocks held ≡ image o

-- a device on which an update in place failed holds below the length of the base what a torn object
-- has
abbrev pub TornDevice : Object → Type 0
TornDevice o =
    (old held : List ℕ) → take (length o.base) old ≡ o.base → IsTorn old (image o) held
    → IsTornImage o (take (length o.base) held)

-- ---- Homes

-- a home that lies in the base and is not disturbed has the same bytes in a torn one
abbrev pub UndisturbedStays : Object → Type 0
UndisturbedStays o =
    (bytes : List ℕ) (home : Home) → IsReady o → IsBased o → IsTornImage o bytes
    → is_disturbed o home ≡ false
    → (0 < home.len → home.at + home.len ≤ length o.base)
    → take home.len (drop home.at bytes) ≡ take home.len (drop home.at o.base)

-- it is disturbed where it meets something that is written, or passes the new end
abbrev pub DisturbedByWrites : Object → Type 0
DisturbedByWrites o =
    (home : Home) → IsReady o
    → is_disturbed o home
    ≡ (meets_some home (written_blocks o)
    || (nat_lt 0 home.len && nat_lt (image_length o) (home.at + home.len)))

-- a home meets some blocks where more of their bytes stand below its end than below its place: so
-- it is told from running sums
abbrev pub MeetsBySums : Type 0
MeetsBySums =
    (home : Home) (blocks : List Block)
    → meets_some home blocks
    ≡ nat_lt (written_below blocks home.at) (written_below blocks (home.at + home.len))

-- what is written below a place is summed over the plan, and over the fill
abbrev pub WrittenByPlan : Object → Type 0
WrittenByPlan o =
    (x : ℕ) → IsReady o → written_below (written_blocks o) x
    ≡ sum_by (rank_written_below o x) (ranks_by_position (placed_parts o))
    + written_below (fill_blocks o) x

-- ---- After an update in place

-- an object whose places are stored, and one whose write failed, settle as the object itself
pub record SettlesAlike (o : Object) : Type 0 where
  pub placed : IsObject o → refusal o ≡ None → settle (placed o) ≡ settle o
  pub torn : (bytes : List ℕ) → IsReady o → IsTornImage o bytes → settle (torn o bytes) ≡ settle o

-- where something is dirty, after places are stored, the object marked, and each piece of each
-- section that moves marked, an object is torn over its own base
abbrev pub MarksAreTorn : Object → Type 0
MarksAreTorn o =
    is_dirty o ≡ true → marked_all (placed o) (part.Object ∷ moved_pieces o) ≡ torn o o.base

-- ---- Gaps and pieces, of every object

-- the bytes of a gap: those of the base below the end of what counts, and then the fill byte
abbrev pub GapBytes : Object → Type 0
GapBytes o =
    (from end : ℕ) → map (uncovered_byte o) (range_with_len from (end - from))
    ≡ take (places_below (kept_base o) from end) (drop from o.base)
    ++ replicate (end - max from (kept_base o)) o.fill

-- the pieces of a section with file bytes stand in a line, and its bytes are theirs, with the fill
-- byte between them
pub record PiecesInLine (o : Object) : Type 0 where
  pub line : (s : ℕ) → AreInLine (pieces_end o s) 0 (piece_blocks o s)
  pub bytes : (s : ℕ) → has_file_bytes s (section_at o s) ≡ true
      → file_bytes o s ≡ in_line (pieces_end o s) (λ _. o.fill) 0 (piece_blocks o s)
