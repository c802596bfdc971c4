pub use Rattle.rebuild_plan.specs.elf_descriptor
pub use Rattle.elf_object.specs as elf_object
pub use Rattle.law_rebuild.specs as law_rebuild
pub use Rattle.rebuild_plan.specs.rebuild_image
pub use Rattle.rebuild_plan.specs.rebuild_keep
pub use Rattle.rebuild_plan.specs.rebuild_making
pub use Rattle.rebuild_plan.specs as rebuild_plan
pub use Rattle.rebuild_plan.specs.rebuild_select
pub mod Objects
pub mod Planned
pub mod Fitting
pub mod Filled
pub mod Halves
pub mod Rebuilding
