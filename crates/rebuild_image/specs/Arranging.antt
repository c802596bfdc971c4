-- Listed headers whose sections are placed behind a tail.
use Rattle.std.specs.Prelude.{◌≡◌, ℕ, ◌<◌, true, List, length, Some, None, slice_index_or}
use Rattle.elf_types.specs.declared.records.Shdr.{Shdr}
use Rattle.elf_types.specs.declared.errors.ElfError.{ElfError}
use Rattle.elf_types.specs.declared.errors.ElfError.TheVariants.{TooLarge}
use Rattle.rebuild_model.specs.elf_ident.Front.{zero_shdr}
use Rattle.elf_layout.specs.Layout.{limit_of, some_above}
use Rattle.rebuild_model.specs.elf_object.Object.{Object, section_at}
use Rattle.rebuild_model.specs.Arranged.{parts_from, section_from, placed_from, tail_refusal}
use Rattle.rebuild_making.specs.Placing.{StandsBelow}
use Rattle.rebuild_image.specs.declared.listed.listed.HeaderListing.{HeaderListing}
use Rattle.rebuild_image.specs.Listed.Listing.{IsHeaderListing}

-- the first sections have their places, none of which is above a limit, and end there
pub record ArePlacedBehind (o : Object) (tail limit n : ℕ) (headers : List Shdr) (end : ℕ)
    : Type 0 where
  pub stands : StandsBelow o tail limit end n
  pub count : length headers ≡ n
  pub each : (s : ℕ) → s < n
      → slice_index_or headers s zero_shdr ≡ (section_from o tail s (section_at o s)).header

-- a place behind the tail is above the limit
pub record IsAbove (x : HeaderListing) (tail limit : ℕ) (e : ElfError) : Type 0 where
  pub error : e ≡ TooLarge
  pub above : (o : Object) → IsHeaderListing o x → limit ≡ limit_of o.header.class
      → some_above limit (parts_from o tail) ≡ true

-- the object is arranged, and these are its headers
pub record IsArrangedBehind (o : Object) (tail : ℕ) (next : HeaderListing) : Type 0 where
  pub passed : tail_refusal o tail ≡ None
  pub listed : IsHeaderListing (placed_from o tail) next

-- it is refused
pub record IsRefusedBehind (x : HeaderListing) (tail : ℕ) (e : ElfError) : Type 0 where
  pub error : e ≡ TooLarge
  pub refused : (o : Object) → IsHeaderListing o x → tail_refusal o tail ≡ Some TooLarge
