pub use Rattle.rebuild_object.proofs.rebuild_image
pub use Rattle.rebuild_object.proofs.rebuild_plan
mod HalfLaws
mod RangeLaws
mod KeepLaws
mod PlanLaws
