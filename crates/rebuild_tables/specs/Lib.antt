pub use Rattle.rebuild_keep.specs.elf_descriptor
pub use Rattle.rebuild_keep.specs.elf_update_plan
pub use Rattle.rebuild_image.specs.elf_update_to
pub use Rattle.rebuild_image.specs as rebuild_image
pub use Rattle.rebuild_keep.specs as rebuild_keep
pub use Rattle.rebuild_keep.specs.rebuild_making
pub use Rattle.rebuild_keep.specs.rebuild_select
pub mod Rows
pub mod Finding
