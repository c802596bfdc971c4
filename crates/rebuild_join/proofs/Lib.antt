pub use Rattle.rebuild_keep.proofs.elf_descriptor
pub use Rattle.rebuild_keep.proofs.elf_update_plan
pub use Rattle.rebuild_keep.proofs as rebuild_keep
pub use Rattle.rebuild_keep.proofs.rebuild_making
pub use Rattle.rebuild_keep.proofs.rebuild_select
mod RangeLaws
mod SectionLaws
mod AddLaws
mod KeepLaws
mod PlanLaws
mod JoinedLaws
