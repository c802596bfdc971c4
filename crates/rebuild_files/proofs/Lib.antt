pub use Rattle.tool_files.proofs.elf_descriptor
pub use Rattle.elfkit_outcomes.proofs.tool_objects
pub use Rattle.rebuild_plan.proofs as rebuild_plan
pub use Rattle.tool_files.proofs as tool_files
pub mod BegunLemmas
pub mod WritingLemmas
pub mod PlanLemmas
