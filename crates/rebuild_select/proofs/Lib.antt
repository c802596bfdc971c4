pub use Rattle.gelf_view.proofs.elf_descriptor
pub use Rattle.gelf_view.proofs as gelf_view
pub mod SetLaws
mod StepLaws
pub mod LinkLaws
mod UserLaws
pub mod NameLaws
pub mod TopLaws
mod FoundLaws
mod FrontLaws
