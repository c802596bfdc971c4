-- Words on what an object has, by number.
use Rattle.std.specs.Prelude.{ℕ, Bool, slice_index_or}
use Rattle.elf_descriptor.specs.elf_xlate.Headers.{phdr_fits}
use Rattle.elf_descriptor.specs.elf_object.Object.{Object, no_phdr}

-- whether the program header with a number fits the class
abbrev pub segment_fits_at : Object → ℕ → Bool
segment_fits_at o i = phdr_fits o.header.class (slice_index_or o.phdrs i no_phdr)
