pub use Rattle.elf_object.specs.elf_ident
pub use Rattle.elf_object.specs.elf_layout
pub use Rattle.elf_object.specs as elf_object
pub use Rattle.elf_object.specs.elf_outside
pub use Rattle.elf_xlate.specs as elf_xlate
pub use Rattle.elf_object.specs.strtab_build
pub mod Views
pub mod Kept
pub mod Held
pub mod Refused
pub mod Lends
pub mod Leaves
pub mod Sizes
pub mod Spans
pub mod Nuls
