pub use Rattle.elf_object.specs.elf_ident
pub use Rattle.elf_object.specs.elf_layout
pub use Rattle.elf_object.specs as elf_object
pub use Rattle.elf_object.specs.elf_outside
pub use Rattle.elf_object.specs.elf_xlate
pub use Rattle.elf_object.specs.strtab_build
pub mod Hashes
pub mod Listed
pub mod HashSections
pub mod BuiltHashes
pub mod Reordered
pub mod Passed
