pub use Rattle.rebuild_select.specs.elf_descriptor
pub use Rattle.rebuild_select.specs.gelf_view
pub use Rattle.rebuild_making.specs as rebuild_making
pub use Rattle.rebuild_names.specs as rebuild_names
pub use Rattle.rebuild_select.specs as rebuild_select
pub mod Texts
pub mod Stores
pub mod Edits
