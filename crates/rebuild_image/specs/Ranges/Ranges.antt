-- The parts of an image as ranges of bytes: of those that are held, or of the bytes
-- of a source, which are the base.
use Rattle.std.specs.Prelude.{ℕ, ◌+◌, ◌≤◌, ◌==◌, Bool, List, [], ◌∷◌, length, take, drop, slice_get, Option, Some, None, is_some, IfSome, if◌then◌else◌}
use Rattle.elf_types.specs.declared.records.Part.{Part}
use Rattle.elf_types.specs.declared.records.Part.TheVariants as part
use Rattle.elf_outside.specs.declared.sources.Source.{Ghosts}
use Rattle.elf_update_to.specs.law_object.Writing.Plan.{places_below}
use Rattle.elf_update_to.specs.elf_descriptor.Views.{source_bytes}
use Rattle.rebuild_image.specs.declared.ranges.ranges.ByteRange.{ByteRange}
use Rattle.rebuild_image.specs.declared.ranges.ranges.PartRanges.{PartRanges}
use Rattle.rebuild_image.specs.declared.ranges.parts.RangedParts.{RangedParts}

-- ---- One range

-- the bytes that it is a range of
abbrev pub bytes_under : List ℕ → List ℕ → ByteRange → List ℕ
bytes_under held base range = if range.held then held else base

abbrev pub range_bytes : List ℕ → List ℕ → ByteRange → List ℕ
range_bytes held base range = take range.len (drop range.at (bytes_under held base range))

abbrev pub IsInside : List ℕ → List ℕ → ByteRange → Type 0
IsInside held base range = range.at + range.len ≤ length (bytes_under held base range)

-- how many of its bytes are read from a source
abbrev pub range_due : ByteRange → ℕ
range_due range = if range.held then 0 else range.len

-- ---- The range of a part, where it has one

abbrev pub range_at : PartRanges → Part → Option ByteRange
range_at ranges part.Header = Some ranges.header
range_at ranges part.Segments = Some ranges.segments
range_at ranges part.Table = Some ranges.table
range_at ranges (part.Section s) = slice_get ranges.sections s
range_at ranges _ = None

-- its bytes are one piece of the part
abbrev pub pieces_at : List ℕ → List ℕ → Option ByteRange → List (ℕ × List ℕ)
pieces_at held base None = []
pieces_at held base (Some range) = (1, range_bytes held base range) ∷ []

abbrev pub LiesInside : List ℕ → List ℕ → Option ByteRange → Type 0
LiesInside held base range = IfSome range (IsInside held base)

abbrev pub len_at : Option ByteRange → ℕ
len_at None = 0
len_at (Some range) = range.len

abbrev pub due_at : Option ByteRange → ℕ
due_at None = 0
due_at (Some range) = range_due range

-- what a piece of the part is due from one place to another
abbrev pub range_piece_due : Option ByteRange → ℕ → ℕ → ℕ → ℕ
range_piece_due range p from to = places_below (if p == 0 then due_at range else 0) from to

-- ---- Those of all parts

-- the bytes of a source; of one that does not tell them they count as zeros
abbrev pub bytes_of_source : {S : Type 0} → Ghosts S → S → List ℕ
bytes_of_source g s = source_bytes (g.holds s) (g.size s)

-- what a read leaves of a source
pub record KeptSource : Type 0 where
  pub base : List ℕ
  pub told : Bool
  pub size : ℕ
  pub holds : Option (List ℕ)
  pub rest : List (List ℕ)

abbrev pub kept_of_source : {S : Type 0} → Ghosts S → S → KeptSource
kept_of_source g s = record {
  base = bytes_of_source g s;
  told = is_some (g.holds s);
  size = g.size s;
  holds = g.holds s;
  rest = g.rest s;
}

abbrev pub source_faults : {S : Type 0} → Ghosts S → S → ℕ
source_faults g s = g.faults s

abbrev pub source_taken : {S : Type 0} → Ghosts S → S → ℕ
source_taken g s = g.taken s

-- all of the parts but what reading their source changes
pub record KeptRanges : Type 0 where
  pub source : KeptSource
  pub held : List ℕ
  pub ranges : PartRanges
  pub kept : ℕ

abbrev pub kept_of_parts : {S : Type 0} → Ghosts S → RangedParts S → KeptRanges
kept_of_parts g parts = record {
  source = kept_of_source g parts.source;
  held = parts.held;
  ranges = parts.ranges;
  kept = parts.kept;
}

abbrev pub ranged_pieces : KeptRanges → Part → List (ℕ × List ℕ)
ranged_pieces k of = pieces_at k.held k.source.base (range_at k.ranges of)

-- what stands between the parts
abbrev pub ranged_base : KeptRanges → List ℕ
ranged_base k = take k.kept k.source.base

abbrev pub ranged_due : KeptRanges → Part → ℕ
ranged_due k of = due_at (range_at k.ranges of)

-- each range lies in the bytes that it is one of
abbrev pub AreInside : KeptRanges → Type 0
AreInside k = (of : Part) → LiesInside k.held k.source.base (range_at k.ranges of)

abbrev pub parts_faults : {S : Type 0} → Ghosts S → RangedParts S → ℕ
parts_faults g parts = g.faults parts.source

abbrev pub parts_taken : {S : Type 0} → Ghosts S → RangedParts S → ℕ
parts_taken g parts = g.taken parts.source
