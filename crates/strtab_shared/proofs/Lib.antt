pub use Rattle.elf_xlate.proofs as elf_xlate
pub use Rattle.strtab_build.proofs as strtab_build
mod ChainLaws
mod KeptLaws
mod PlaceLaws
