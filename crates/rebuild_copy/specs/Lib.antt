pub use Rattle.law_rebuild.specs as law_rebuild
pub use Rattle.rebuild_plan.specs as rebuild_plan
pub use Rattle.rebuild_object.specs as rebuild_object
pub mod Changing
pub mod Rows
pub mod Edits
pub mod Arranging
pub mod Steps
pub mod Indexes
pub mod Plans
