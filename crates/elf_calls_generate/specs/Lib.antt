pub use Rattle.elf_descriptor.specs as elf_descriptor
pub mod Uses
pub mod Stages
