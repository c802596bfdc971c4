pub use Rattle.elf_object.specs.elf_ident
pub use Rattle.elf_object.specs.elf_layout
pub use Rattle.elf_object.specs as elf_object
pub use Rattle.elf_object.specs.elf_outside
pub use Rattle.elf_object.specs.elf_xlate
pub mod Laws
pub mod Writing
