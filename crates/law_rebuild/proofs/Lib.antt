pub use Rattle.law_object.proofs.elf_object
pub use Rattle.law_object.proofs as law_object
