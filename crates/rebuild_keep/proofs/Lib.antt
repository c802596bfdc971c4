pub use Rattle.elf_update_plan.proofs.elf_descriptor
pub use Rattle.elf_update_plan.proofs.elf_object
pub use Rattle.elf_update_plan.proofs as elf_update_plan
pub use Rattle.elf_update_plan.proofs.law_object
pub use Rattle.rebuild_making.proofs as rebuild_making
pub use Rattle.rebuild_numbers.proofs.rebuild_select
pub mod FitLaws
pub mod CleanLaws
pub mod DecodeLaws
pub mod MakeLaws
pub mod HomeLaws
pub mod KeeperLaws
mod TableLaws
pub mod AskLaws
mod NameLaws
pub mod NumberLaws
pub mod EndLaws
pub mod KeptLaws
mod SectionLaws
pub mod FillLaws
pub mod RebuildLaws
pub mod WholeLaws
