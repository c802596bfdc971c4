pub use Rattle.rebuild_tables.specs.elf_descriptor
pub use Rattle.law_rebuild.specs as law_rebuild
pub use Rattle.rebuild_tables.specs.rebuild_image
pub use Rattle.rebuild_tables.specs.rebuild_keep
pub use Rattle.rebuild_tables.specs.rebuild_making
pub use Rattle.rebuild_tables.specs.rebuild_select
pub mod Ranges
pub mod Contents
pub mod Reading
pub mod Checks
pub mod Plans
