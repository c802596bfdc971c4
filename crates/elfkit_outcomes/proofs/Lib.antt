pub use Rattle.rebuild_model.proofs.elf_object
pub use Rattle.tool_objects.proofs.law_object
pub use Rattle.tool_objects.proofs as tool_objects
mod Computing
mod OpenedAgainLaws
