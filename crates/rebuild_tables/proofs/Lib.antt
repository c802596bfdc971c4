pub use Rattle.rebuild_keep.proofs.elf_update_plan
pub use Rattle.rebuild_image.proofs as rebuild_image
pub use Rattle.rebuild_keep.proofs as rebuild_keep
pub use Rattle.rebuild_keep.proofs.rebuild_making
mod PieceLaws
mod FollowLaws
mod ReadLaws
mod HomeLaws
mod FindLaws
mod HoldLaws
