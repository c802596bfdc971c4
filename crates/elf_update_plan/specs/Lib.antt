pub use Rattle.elf_descriptor.specs as elf_descriptor
pub use Rattle.elf_descriptor.specs.elf_ident
pub use Rattle.elf_descriptor.specs.elf_layout
pub use Rattle.elf_descriptor.specs.elf_object
pub use Rattle.elf_descriptor.specs.elf_outside
pub use Rattle.elf_descriptor.specs.elf_xlate
pub use Rattle.elf_descriptor.specs.law_object
pub mod Contents
pub mod Sections
pub mod Placing
pub mod Plans
pub mod Passed
