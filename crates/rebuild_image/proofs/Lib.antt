pub use Rattle.elf_update_plan.proofs.elf_object
pub use Rattle.rebuild_making.proofs as rebuild_making
pub mod HomeLaws
pub mod FrontLaws
mod PlaceLaws
mod ArrangeLaws
mod HoldLaws
mod PlanLaws
pub mod StreamLaws
pub mod StoredLaws
pub mod UnreadLaws
