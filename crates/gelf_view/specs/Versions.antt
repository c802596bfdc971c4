-- The records of GNU's version sections: definitions and needs, each with its list of names. They
-- are no part of the gABI. A place in a record counts from its first byte, and `aux` and `next`
-- from the first byte of the record that holds them.
use Rattle.std.specs.Prelude.{ℕ, List, Result}
use Rattle.elf_types.specs.declared.records.Order.{Order}
use Rattle.elf_types.specs.declared.errors.ElfError.{ElfError}
use Rattle.elf_descriptor.specs.elf_xlate.Numbers.{number_at}
use Rattle.elf_descriptor.specs.elf_object.Words.{result_map}
use Rattle.gelf_view.specs.declared.versions.Verdef.{Verdef}
use Rattle.gelf_view.specs.declared.versions.Verdaux.{Verdaux}
use Rattle.gelf_view.specs.declared.versions.Verneed.{Verneed}
use Rattle.gelf_view.specs.declared.versions.Vernaux.{Vernaux}
use Rattle.gelf_view.specs.declared.versions.TheConstants.{VERDEF_SIZE, VERDAUX_SIZE, VERNEED_SIZE, VERNAUX_SIZE}
use Rattle.gelf_view.specs.Records.{record_at}

-- ---- The records that bytes hold: place and width of each field

unfoldable pub verdef_of : Order → List ℕ → Verdef
verdef_of order bytes = record {
  version = number_at order bytes 0 2;  -- vd_version
  flags = number_at order bytes 2 2;  -- vd_flags
  ndx = number_at order bytes 4 2;  -- vd_ndx
  cnt = number_at order bytes 6 2;  -- vd_cnt
  hash = number_at order bytes 8 4;  -- vd_hash
  aux = number_at order bytes 12 4;  -- vd_aux
  next = number_at order bytes 16 4;  -- vd_next
}

unfoldable pub verdaux_of : Order → List ℕ → Verdaux
verdaux_of order bytes = record {
  name = number_at order bytes 0 4;  -- vda_name
  next = number_at order bytes 4 4;  -- vda_next
}

unfoldable pub verneed_of : Order → List ℕ → Verneed
verneed_of order bytes = record {
  version = number_at order bytes 0 2;  -- vn_version
  cnt = number_at order bytes 2 2;  -- vn_cnt
  file = number_at order bytes 4 4;  -- vn_file
  aux = number_at order bytes 8 4;  -- vn_aux
  next = number_at order bytes 12 4;  -- vn_next
}

unfoldable pub vernaux_of : Order → List ℕ → Vernaux
vernaux_of order bytes = record {
  hash = number_at order bytes 0 4;  -- vna_hash
  flags = number_at order bytes 4 2;  -- vna_flags
  other = number_at order bytes 6 2;  -- vna_other
  name = number_at order bytes 8 4;  -- vna_name
  next = number_at order bytes 12 4;  -- vna_next
}

-- ---- The records at a place, where they lie in the bytes

unfoldable pub verdef_at : Order → List ℕ → ℕ → Result Verdef ElfError
verdef_at order bytes at = result_map (verdef_of order) (record_at VERDEF_SIZE bytes at)

unfoldable pub verdaux_at : Order → List ℕ → ℕ → Result Verdaux ElfError
verdaux_at order bytes at = result_map (verdaux_of order) (record_at VERDAUX_SIZE bytes at)

unfoldable pub verneed_at : Order → List ℕ → ℕ → Result Verneed ElfError
verneed_at order bytes at = result_map (verneed_of order) (record_at VERNEED_SIZE bytes at)

unfoldable pub vernaux_at : Order → List ℕ → ℕ → Result Vernaux ElfError
vernaux_at order bytes at = result_map (vernaux_of order) (record_at VERNAUX_SIZE bytes at)
