pub use Rattle.gelf_view.specs.elf_descriptor
pub use Rattle.rebuild_model.specs.elf_object
pub use Rattle.rebuild_model.specs.elf_outside
pub use Rattle.gelf_view.specs as gelf_view
pub use Rattle.rebuild_model.specs as rebuild_model
pub mod Sets
pub mod Steps
pub mod Marking
pub mod Users
pub mod Calls
pub mod Passed
pub mod Sought
