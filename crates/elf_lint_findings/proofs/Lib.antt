pub use Rattle.tool_objects.proofs.gelf_view
pub use Rattle.tool_objects.proofs as tool_objects
pub mod FindingLemmas
mod HeaderLemmas
pub mod LentLemmas
pub mod WholeLemmas
