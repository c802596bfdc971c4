-- The layout of an object: where the parts of its image are, and the bytes of the front. And what
-- it is good for: who writes these parts writes the image.
use Rattle.std.specs.Prelude.{◌≡◌, ℕ, ◌<◌, List, length, map, All, Some, None}
use Rattle.elf_layout.specs.declared.parts.PartAt.{PartAt}
use Rattle.elf_object.specs.Blocks.{Block}
use Rattle.elf_object.specs.Object.{Object}
use Rattle.elf_object.specs.Joined.{file_bytes}
use Rattle.elf_object.specs.Layout.{placed}
use Rattle.elf_object.specs.Image.{image, image_length, kept_base, front_blocks}
use Rattle.law_object.specs.Writing.Lines.{AreInLine, in_line}
use Rattle.law_object.specs.Writing.Ready.{IsReady}
use Rattle.elf_update_to.specs.Descriptors.{planned}
use Rattle.elf_update_to.specs.Emits.{ground_byte}
use Rattle.c_handles.specs.declared.layout.planned.PlannedLayout.{PlannedLayout}
use Rattle.c_calls.specs.Layout.Parts.{front_of, section_number, part_len}

-- the parts are those of its plan, and the front's bytes those of its image
pub record IsLayoutOf (o : Object) (l : PlannedLayout) : Type 0 where
  pub ready : IsReady o
  pub parts : l.parts ≡ planned o
  pub end : l.end ≡ image_length o
  pub header : l.header ≡ (front_blocks (placed o)).header.bytes
  pub segments : l.segments ≡ (front_blocks (placed o)).segments.bytes
  pub table : l.table ≡ (front_blocks (placed o)).table.bytes

-- ---- Who writes the parts

-- what is put for a part: the bytes that the layout has, or those of the section with its number
abbrev pub part_text : Object → PlannedLayout → PartAt → List ℕ
part_text o l p =
    elim (front_of l p.part) [ None ↦ file_bytes o (section_number p.part) | Some bytes ↦ bytes ]

abbrev pub part_block : Object → PlannedLayout → PartAt → Block
part_block o l p = record { at = p.at; bytes = part_text o l p }

-- a part is told as long as it is, and is not empty; where it is none of the front it is a section
pub record IsToldAs (o : Object) (l : PlannedLayout) (p : PartAt) : Type 0 where
  pub long : part_len l p ≡ length (part_text o l p)
  pub some : 0 < part_len l p
  pub section : front_of l p.part ≡ None
      → (0 < section_number p.part) × (section_number p.part < length o.sections)

-- the parts stand one behind the other within the image, which is these parts at their places, and
-- between them the bytes of the base, as far as they count, and then the fill byte
pub record MakesImage (o : Object) (l : PlannedLayout) : Type 0 where
  pub told : All (IsToldAs o l) l.parts
  pub line : AreInLine l.end 0 (map (part_block o l) l.parts)
  pub image : in_line l.end (ground_byte o.base (kept_base o) o.fill) 0
      (map (part_block o l) l.parts)
      ≡ image o

abbrev pub LayoutMakesImage : Type 0
LayoutMakesImage = (o : Object) (l : PlannedLayout) → IsLayoutOf o l → MakesImage o l
