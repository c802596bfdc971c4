-- The sizes of headers fit two bytes.
use Rattle.std.proofs.Common.{◌^◌, ◌<◌, lit<}
use Rattle.elf_types.specs.declared.records.Class.{Class}
use Rattle.elf_types.specs.declared.records.Class.TheVariants.{C32, C64}
use Rattle.elf_ident.specs.elf_xlate.Headers.{ehdr_size, phdr_size, shdr_size}

pub sizes_are_small : (class : Class) → (ehdr_size class < 2 ^ 16) × (phdr_size class < 2 ^ 16) × (shdr_size class < 2 ^ 16)
sizes_are_small C32 = (lit< tt, lit< tt, lit< tt)
sizes_are_small C64 = (lit< tt, lit< tt, lit< tt)
