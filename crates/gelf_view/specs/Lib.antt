pub use Rattle.elf_descriptor.specs as elf_descriptor
pub use Rattle.elf_descriptor.specs.elf_ident
pub use Rattle.elf_descriptor.specs.elf_layout
pub use Rattle.elf_descriptor.specs.elf_object
pub use Rattle.elf_descriptor.specs.elf_xlate
pub use Rattle.elf_descriptor.specs.law_object
pub use Rattle.elf_descriptor.specs.section_data
pub use Rattle.elf_descriptor.specs.strtab_build
pub mod Records
pub mod Versions
pub mod Notes
pub mod Strings
pub mod Calls
pub mod Chains
pub mod SectionNames
pub mod Constants
pub mod Passed
