pub use Rattle.tool_objects.specs.elf_descriptor
pub use Rattle.tool_objects.specs.elf_object
pub use Rattle.tool_objects.specs.gelf_view
pub use Rattle.tool_objects.specs as tool_objects
pub mod Findings
pub mod Looking
pub mod Steps
pub mod Passed
