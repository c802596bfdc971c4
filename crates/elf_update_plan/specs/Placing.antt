-- What a call that works out the places of an object's parts answers.
use Rattle.std.specs.Prelude.{◌≡◌, ◌⊎◌, Some, None, Result, Err}
use Rattle.elf_types.specs.declared.errors.ElfError.{ElfError}
use Rattle.elf_types.specs.declared.errors.ElfError.TheVariants.{Memory}
use Rattle.elf_descriptor.specs.elf_layout.declared.parts.Places.{Places}
use Rattle.elf_descriptor.specs.elf_layout.Layout.{MayWantMemory}
use Rattle.elf_descriptor.specs.elf_object.Object.{Object}
use Rattle.elf_descriptor.specs.elf_object.Layout.{parts_of, places_of}
use Rattle.elf_descriptor.specs.elf_object.Refusal.{refusal}
use Rattle.elf_descriptor.specs.elf_object.Calls.{update_null}
use Rattle.elf_update_plan.specs.declared.places.PlacedParts.{PlacedParts}

-- the parts of an object that is not refused, and their places
pub record ArePlaced (o : Object) (placed : PlacedParts) : Type 0 where
  pub passed : refusal o ≡ None
  pub parts : placed.parts ≡ parts_of o
  pub places : placed.places ≡ places_of o

-- the refusal of an update, or want of memory in place of a value or of what is seen once the parts
-- are sorted
abbrev pub IsRefused : Object → ElfError → Type 0
IsRefused o e = ((e ≡ Memory) × MayWantMemory (update_null.answer o)) ⊎ (refusal o ≡ Some e)

-- parts are not placed: as stated, or for want of memory where that may come
abbrev pub IsUnplaced : Result Places ElfError → ElfError → Type 0
IsUnplaced stated e = ((e ≡ Memory) × MayWantMemory stated) ⊎ (stated ≡ Err e)
