-- What an update in place writes and moves, as flags (elf_update with ELF_C_WRITE).
use Rattle.std.specs.Prelude.{◌≡◌, length, map}
use Rattle.std.specs.List.{range_with_len}
use Rattle.elf_update_to.specs.elf_object.Object.{Object}
use Rattle.elf_update_to.specs.elf_object.Changed.{header_changed, segments_changed, table_changed, is_moved}
use Rattle.elf_update_to.specs.declared.updates.PlannedParts.{PlannedParts}
use Rattle.elf_update_in_place.specs.declared.moves.changes.FrontChanges.{FrontChanges}
use Rattle.elf_update_in_place.specs.declared.moves.changes.Changes.{Changes}
use Rattle.elf_update_in_place.specs.Moves.Written.{part_changed}

-- the parts of the front that change
pub record IsFront (o : Object) (front : FrontChanges) : Type 0 where
  pub header : front.header ≡ header_changed o
  pub segments : front.segments ≡ segments_changed o
  pub table : front.table ≡ table_changed o

-- of each part of a plan, whether it changes, and of each section, whether it moves
pub record TellsChanges (o : Object) (planned : PlannedParts) (changes : Changes) : Type 0 where
  pub parts : changes.parts ≡ map (λ p. part_changed o p.part) planned.parts
  pub sections : changes.sections ≡ map (is_moved o) (range_with_len 0 (length o.sections))
