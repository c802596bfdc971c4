pub use Rattle.rebuild_tables.proofs.elf_update_plan
pub use Rattle.law_rebuild.proofs as law_rebuild
pub use Rattle.rebuild_tables.proofs.rebuild_image
pub use Rattle.rebuild_tables.proofs.rebuild_keep
pub use Rattle.rebuild_tables.proofs.rebuild_making
pub mod ReadingLaws
pub mod RangeLaws
mod RowLaws
pub mod KeepingLaws
mod SegmentLaws
pub mod CheckLaws
mod ArrangeLaws
mod CopyLaws
pub mod GatherLaws
pub mod ListLaws
pub mod AnswerLaws
pub mod TiedLaws
pub mod DueLaws
mod MakesLaws
pub mod WholeLaws
pub mod RemovedLaws
pub mod StopLaws
