pub use Rattle.elfkit_outcomes.specs as elfkit_outcomes
pub use Rattle.elfkit_outcomes.specs.tool_objects
pub mod Told
