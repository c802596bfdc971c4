pub use Rattle.section_data.specs.elf_ident
pub use Rattle.section_data.specs.elf_layout
pub use Rattle.section_data.specs.elf_object
pub use Rattle.section_data.specs.elf_outside
pub use Rattle.section_data.specs.elf_xlate
pub use Rattle.section_data.specs as section_data
pub use Rattle.section_data.specs.strtab_build
pub mod Sections
pub mod Lends
pub mod Tables
pub mod Passed
