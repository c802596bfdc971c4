pub use Rattle.rebuild_model.specs.elf_object
pub use Rattle.rebuild_model.specs as rebuild_model
pub mod Names
pub mod Stated
