pub use Rattle.rebuild_model.specs.elf_ident
pub use Rattle.rebuild_model.specs.elf_object
pub use Rattle.rebuild_model.specs.hash_model
pub use Rattle.tool_objects.specs.law_object
pub use Rattle.rebuild_changes.specs as rebuild_changes
pub use Rattle.rebuild_model.specs as rebuild_model
pub use Rattle.tool_objects.specs as tool_objects
pub mod Files
pub mod Strip
pub mod Copy
pub mod Selftest
pub mod OpenedAgain
pub mod Samples
