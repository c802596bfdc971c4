pub use Rattle.rebuild_object.specs.law_rebuild
pub use Rattle.rebuild_object.specs.rebuild_image
pub use Rattle.rebuild_object.specs.rebuild_plan
pub mod Half
pub mod Ranges
pub mod Keeping
pub mod Planning
