pub use Rattle.gelf_view.proofs.elf_descriptor
pub use Rattle.hash_model.proofs.elf_object
pub use Rattle.gelf_view.proofs as gelf_view
pub use Rattle.gelf_view.proofs.law_object
pub use Rattle.symbol_hashes.proofs as symbol_hashes
pub mod SearchLaws
mod FollowLaws
mod CallLaws
mod StepLaws
mod TopLaws
mod LinearLaws
mod AtHand
mod WalkLaws
mod NeedLaws
mod HashLaws
mod LendLaws
pub mod LeastLaws
mod SysvReach
mod GnuReach
pub mod ReachLaws
