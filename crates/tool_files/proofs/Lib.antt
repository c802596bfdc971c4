pub use Rattle.elf_update_to.proofs.elf_descriptor
pub use Rattle.tool_output.proofs as tool_output
mod LeftLemmas
pub mod WriteLemmas
mod EditLemmas
pub mod SaidLemmas
mod ObjectLemmas
pub mod ChangeSteps
mod ChangeLemmas
