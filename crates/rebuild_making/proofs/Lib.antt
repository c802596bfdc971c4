pub use Rattle.rebuild_model.proofs.elf_object
pub use Rattle.rebuild_model.proofs.elf_outside
pub mod RefusedLaws
pub mod AddLaws
mod HeaderLaws
mod BaseLaws
pub mod LookLaws
pub mod MakingLaws
pub mod NumberLaws
pub mod TailLaws
pub mod StoreLaws
pub mod PlaceLaws
