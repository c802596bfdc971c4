-- When ranges are the parts of an object that is made anew.
use Rattle.std.specs.Prelude.{◌≡◌, ℕ, ◌<◌, true, length}
use Rattle.elf_types.specs.declared.records.Part.TheVariants as part
use Rattle.rebuild_model.specs.elf_object.Object.{Object, section_at, occupies_file}
use Rattle.rebuild_model.specs.elf_object.Layout.{placed}
use Rattle.rebuild_model.specs.elf_object.Image.{kept_base}
use Rattle.elf_update_to.specs.declared.updates.PlannedParts.{PlannedParts}
use Rattle.elf_update_to.specs.Descriptors.{stored_pieces}
use Rattle.elf_update_to.specs.Updates.{IsPlanned}
use Rattle.rebuild_image.specs.Ranges.Ranges.{KeptRanges, ranged_pieces, ranged_base}
use Rattle.rebuild_image.specs.Ranges.Images.{AreRangesOf}
use Rattle.rebuild_image.specs.Holding.{IsHeldFrontOf}

-- its front is held, each section that has bytes in the file is a range, and its base is that of
-- the descriptor, or the beginning of it
pub record AreStreamed (o : Object) (k : KeptRanges) (p : PlannedParts) : Type 0 where
  pub planned : IsPlanned o p
  pub fill : o.fill ≡ 0
  pub kept : k.kept ≡ kept_base o
  pub base : ranged_base k ≡ o.base
  pub front : IsHeldFrontOf (placed o) k.held k.source.base (record {
    header = k.ranges.header;
    segments = k.ranges.segments;
    table = k.ranges.table;
  })
  pub sections : (s : ℕ) → 0 < s → s < length o.sections
      → occupies_file (section_at o s).header ≡ true
      → ranged_pieces k (part.Section s) ≡ stored_pieces (placed o) (part.Section s)

-- then they make its image
abbrev pub StreamedPartsAreRanges : Type 0
StreamedPartsAreRanges =
    (o : Object) (k : KeptRanges) (p : PlannedParts) → AreStreamed o k p
    → AreRangesOf o k p.parts p.places.end
