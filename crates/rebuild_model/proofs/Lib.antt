pub use Rattle.hash_model.proofs.elf_layout
pub use Rattle.hash_model.proofs.elf_object
pub use Rattle.hash_model.proofs.elf_outside
pub mod Computing
pub mod SameLaws
