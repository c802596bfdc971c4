pub use Rattle.rebuild_plan.proofs.elf_update_plan
pub use Rattle.law_rebuild.proofs as law_rebuild
pub use Rattle.rebuild_plan.proofs.rebuild_image
pub use Rattle.rebuild_plan.proofs.rebuild_keep
pub use Rattle.rebuild_plan.proofs.rebuild_making
pub use Rattle.rebuild_plan.proofs as rebuild_plan
pub mod ItemLaws
pub mod StatedLaws
mod ReadLaws
mod FrontLaws
mod AddLaws
pub mod FillLaws
pub mod PlanLaws
mod NameLaws
mod RangedLaws
mod CreatedLaws
pub mod ReadItemLaws
pub mod OverLaws
pub mod AnswerLaws
pub mod HalfLaws
mod FitLaws
