pub use Rattle.elf_update_plan.specs.elf_object
pub use Rattle.elf_update_to.specs as elf_update_to
pub use Rattle.rebuild_making.specs as rebuild_making
pub use Rattle.rebuild_model.specs as rebuild_model
pub mod Fronts
pub mod Homes
pub mod Places
pub mod Arranging
pub mod Holding
pub mod Planning
pub mod Streaming
pub mod Streams
pub mod Listed
pub mod Ranges
