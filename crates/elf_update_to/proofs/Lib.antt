pub use Rattle.elf_update_plan.proofs.elf_descriptor
pub use Rattle.elf_update_plan.proofs.elf_object
pub use Rattle.elf_update_plan.proofs as elf_update_plan
pub use Rattle.elf_update_plan.proofs.law_object
mod FlowLaws
mod EmitLaws
mod PageLaws
mod RangeLaws
mod GapLaws
pub mod PieceLaws
mod WalkLaws
mod EntryLaws
mod ItemLaws
mod RowLaws
pub mod StoredLaws
pub mod FrontLaws
pub mod DataLaws
pub mod CopyLaws
pub mod DescriptorLaws
mod PartBytes
pub mod PlanLaws
pub mod UpdateLaws
