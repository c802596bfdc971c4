-- An image whose parts are ranges of bytes: what is written of it, and when it is that of an object.
use Rattle.std.specs.Prelude.{◌≡◌, ℕ, ◌+◌, ◌^◌, ◌<◌, ◌≤◌, List, length, sum_by, All}
use Rattle.elf_layout.specs.declared.parts.PartAt.{PartAt}
use Rattle.elf_update_to.specs.elf_object.Blocks.{Block}
use Rattle.elf_update_to.specs.elf_object.Object.{Object}
use Rattle.elf_update_to.specs.elf_object.Layout.{placed}
use Rattle.elf_update_to.specs.elf_object.Image.{image, image_length, kept_base}
use Rattle.elf_update_to.specs.law_object.Writing.Lines.{AreInLine, in_line}
use Rattle.elf_update_to.specs.law_object.Writing.Plan.{base_gaps}
use Rattle.elf_update_to.specs.law_object.Writing.Ready.{IsReady}
use Rattle.elf_update_to.specs.Pieces.{blocks_at, HasLength}
use Rattle.elf_update_to.specs.Emits.{ground_byte}
use Rattle.elf_update_to.specs.Descriptors.{stored_pieces, planned}
use Rattle.rebuild_image.specs.Ranges.Ranges.{KeptRanges, ranged_pieces, ranged_base, ranged_due, AreInside}

-- ---- What is written

-- the parts at their places
abbrev pub ranged_blocks : KeptRanges → List PartAt → List Block
ranged_blocks k plan = blocks_at 0 (ranged_pieces k) plan

-- so many bytes: the parts, and between them the first bytes of the base, and then zeros
abbrev pub ranged_text : KeptRanges → List PartAt → ℕ → List ℕ
ranged_text k plan end =
    in_line end (ground_byte (ranged_base k) k.kept 0) 0 (ranged_blocks k plan)

-- at most so many bytes are asked of the source
abbrev pub ranged_asks : KeptRanges → List PartAt → ℕ → ℕ
ranged_asks k plan end =
    sum_by (λ p. ranged_due k p.part) plan + base_gaps k.kept end 0 (ranged_blocks k plan)

-- the parts of a plan, each as long as its range, stand one behind the other before an end
pub record ArePlanned (k : KeptRanges) (plan : List PartAt) (end : ℕ) : Type 0 where
  pub long : All (HasLength (ranged_pieces k)) plan
  pub line : AreInLine end 0 (ranged_blocks k plan)

-- a part that is as long as its range stands behind an end, and its own end is a number of 64 bits
pub record StandsBehind (k : KeptRanges) (part : PartAt) (end : ℕ) : Type 0 where
  pub long : HasLength (ranged_pieces k) part
  pub first : end ≤ part.at
  pub fits : part.at + part.len < 2 ^ 64

-- it can be written: each range lies in its bytes, and the parts of the plan, each as long as its
-- range, stand one behind the other before the end
pub record IsReadyImage (k : KeptRanges) (plan : List PartAt) (end : ℕ) : Type 0 where
  pub inside : AreInside k
  pub kept : k.kept ≤ length k.source.base
  pub long : All (HasLength (ranged_pieces k)) plan
  pub line : AreInLine end 0 (ranged_blocks k plan)

-- ---- When it is the image of an object

-- the plan is that of an object that an update writes, and has its pieces; what stands between them
-- is the object's base, with fill byte 0
pub record AreRangesOf (o : Object) (k : KeptRanges) (plan : List PartAt) (end : ℕ)
    : Type 0 where
  pub ready : IsReady o
  pub plan_is : plan ≡ planned o
  pub end_is : end ≡ image_length o
  pub fill : o.fill ≡ 0
  pub kept : k.kept ≡ kept_base o
  pub base : ranged_base k ≡ o.base
  pub pieces : All (λ p. ranged_pieces k p.part ≡ stored_pieces (placed o) p.part) plan

-- then the object's image is written
abbrev pub RangesMakeImage : Type 0
RangesMakeImage =
    (o : Object) (k : KeptRanges) (plan : List PartAt) (end : ℕ) → AreRangesOf o k plan end
    → ranged_text k plan end ≡ image o

-- and it can be written where the ranges lie in their bytes
abbrev pub RangesAreReady : Type 0
RangesAreReady =
    (o : Object) (k : KeptRanges) (plan : List PartAt) (end : ℕ) → AreRangesOf o k plan end
    → AreInside k → k.kept ≤ length k.source.base → IsReadyImage k plan end
