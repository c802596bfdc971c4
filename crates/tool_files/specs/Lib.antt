pub use Rattle.elf_update_to.specs.elf_descriptor
pub use Rattle.tool_output.specs as tool_output
pub mod Making
pub mod Edits
pub mod Changes
pub mod ElfImages
