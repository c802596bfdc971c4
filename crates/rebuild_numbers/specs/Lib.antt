pub use Rattle.rebuild_select.specs.elf_descriptor
pub use Rattle.rebuild_select.specs.elf_object
pub use Rattle.rebuild_select.specs.elf_outside
pub use Rattle.rebuild_select.specs.rebuild_model
pub use Rattle.rebuild_select.specs as rebuild_select
pub mod Numbers
pub mod Rows
pub mod Kept
