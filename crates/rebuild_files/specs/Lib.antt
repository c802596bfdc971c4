pub use Rattle.rebuild_plan.specs.elf_descriptor
pub use Rattle.elfkit_outcomes.specs.tool_objects
pub use Rattle.elfkit_outcomes.specs as elfkit_outcomes
pub use Rattle.rebuild_plan.specs as rebuild_plan
pub use Rattle.tool_files.specs as tool_files
pub mod Writing
