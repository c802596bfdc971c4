pub use Rattle.elf_outside.proofs as elf_outside
pub use Rattle.elf_xlate.proofs as elf_xlate
pub mod CountLemmas
pub mod TableLemmas
pub mod PieceLemmas
pub mod FirstBytes
pub mod FrontLemmas
pub mod HeaderLemmas
pub mod Refusals
