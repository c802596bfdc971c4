pub use Rattle.rebuild_keep.specs.elf_descriptor
pub use Rattle.rebuild_keep.specs as rebuild_keep
pub use Rattle.rebuild_keep.specs.rebuild_making
pub use Rattle.rebuild_keep.specs.rebuild_select
pub mod Ranges
pub mod Keeping
pub mod Joining
pub mod Pair
pub mod Joined
