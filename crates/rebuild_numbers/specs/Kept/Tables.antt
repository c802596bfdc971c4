-- For each section the first table of extended indexes that links to it, found section by section
-- (gABI chapter 4, SHT_SYMTAB_SHNDX).
use Rattle.std.specs.Prelude.{◌≡◌, ℕ, ◌-◌, ◌<◌, nat_lt, Bool, not, ◌==◌, ◌&&◌, List, length, map, slice_index, slice_set, if◌then◌else◌}
use Rattle.std.specs.List.{range_with_len}
use Rattle.std.proofs.Math.ListN.{replicate}
use Rattle.elf_types.specs.declared.records.Kind.TheVariants as kinds
use Rattle.elf_types.specs.declared.constants.TheConstants.{SHT_SYMTAB_SHNDX}
use Rattle.rebuild_select.specs.elf_object.Object.{Object}
use Rattle.rebuild_select.specs.elf_object.Due.{all_sections}
use Rattle.rebuild_select.specs.elf_object.Sections.{is_loose, header_at, is_among, first_of, number_or_0}
use Rattle.rebuild_select.specs.rebuild_model.Followed.{extended_table}
use Rattle.rebuild_select.specs.Steps.{links_to}

-- a table of extended indexes that is kept
unfoldable pub has_indexes : Object → List ℕ → ℕ → Bool
has_indexes o removed s =
    not (is_among removed s) && is_loose SHT_SYMTAB_SHNDX kinds.Word (header_at o s)

-- for each section its table, and 0 where it has none
unfoldable pub extended_tables : Object → List ℕ → List ℕ
extended_tables o removed = map (λ t. number_or_0 (extended_table o removed t)) (all_sections o)

-- ---- Section by section

abbrev pub no_numbers : ℕ → List ℕ
no_numbers count = replicate count 0

-- with a section noted for one that is there, where none is noted for it
unfoldable pub with_first_linking : List ℕ → ℕ → ℕ → List ℕ
with_first_linking first t s =
    if nat_lt t (length first)
    then (if slice_index first t == 0 then slice_set first t s else first)
    else first

-- the first section from 1 on and below a number that passes and links to one, and 0 where there is
-- none
unfoldable pub first_linking : Object → (ℕ → Bool) → ℕ → ℕ → ℕ
first_linking o passes below t =
    number_or_0 (first_of (links_to o passes t) (range_with_len 1 (below - 1)))

pub record AreFirstLinking (o : Object) (passes : ℕ → Bool) (first : List ℕ) (below : ℕ)
    : Type 0 where
  pub long : length first ≡ length o.sections
  pub first_is : (t : ℕ) → t < length o.sections
      → slice_index first t ≡ first_linking o passes below t
