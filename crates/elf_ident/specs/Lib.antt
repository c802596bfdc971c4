pub use Rattle.elf_outside.specs as elf_outside
pub use Rattle.elf_xlate.specs as elf_xlate
pub mod FileKinds
pub mod Front
pub mod Reading
