-- A section's place behind the base of a program, found by its header (gABI chapter 4, "Section
-- Header", sh_offset and sh_addralign).
use Rattle.std.specs.Prelude.{◌≡◌, ℕ, Option, Some, None, if◌then◌else◌}
use Rattle.elf_types.specs.declared.records.Shdr.{Shdr}
use Rattle.elf_layout.specs.Layout.{place_of}
use Rattle.rebuild_model.specs.elf_object.Object.{Object}
use Rattle.rebuild_model.specs.elf_object.Layout.{section_part}
use Rattle.rebuild_model.specs.elf_object.Sections.{header_at}
use Rattle.rebuild_making.specs.Placing.{is_movable, end_with, MayStand}

-- the header with its place behind an end, where the section is placed
abbrev pub header_behind : Object → ℕ → ℕ → Shdr
header_behind o end s =
    if is_movable o s
    then record (header_at o s) { offset = place_of end (section_part o s) }
    else header_at o s

-- it is found with the end after it, and neither is above a limit
pub record StandsBehind (o : Object) (s end limit : ℕ) (found : Shdr × ℕ) : Type 0 where
  pub may : MayStand o limit end s
  pub header : found.0 ≡ header_behind o end s
  pub end_is : found.1 ≡ end_with o end s

-- or one of the two is above it
abbrev pub IsArranged : Object → ℕ → ℕ → ℕ → Option (Shdr × ℕ) → Type 0
IsArranged o s end limit (Some found) = StandsBehind o s end limit found
IsArranged o s end limit None = MayStand o limit end s → ⊥
