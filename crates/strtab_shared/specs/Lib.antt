pub use Rattle.elf_xlate.specs as elf_xlate
pub use Rattle.strtab_build.specs as strtab_build
pub mod Hashes
pub mod Chains
pub mod Kept
pub mod Bytes
