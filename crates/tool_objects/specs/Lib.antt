pub use Rattle.gelf_view.specs.elf_descriptor
pub use Rattle.gelf_view.specs.elf_ident
pub use Rattle.gelf_view.specs.elf_layout
pub use Rattle.gelf_view.specs.elf_object
pub use Rattle.tool_output.specs.elf_outside
pub use Rattle.gelf_view.specs.elf_xlate
pub use Rattle.gelf_view.specs as gelf_view
pub use Rattle.gelf_view.specs.law_object
pub use Rattle.gelf_view.specs.section_data
pub use Rattle.gelf_view.specs.strtab_build
pub use Rattle.tool_output.specs as tool_output
pub mod Steps
pub mod Answers
pub mod Refusals
pub mod Shows
pub mod Looks
pub mod Images
pub mod Archives
pub mod Files
pub mod Sections
pub mod Symbols
pub mod Obtains
pub mod Passed
pub mod AtHand
