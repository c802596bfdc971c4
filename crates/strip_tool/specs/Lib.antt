pub use Rattle.rebuild_files.specs.tool_files
pub mod Steps
pub mod Writes
