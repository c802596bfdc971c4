pub use Rattle.calls_tool.specs as calls_tool
pub use Rattle.elfkit_read.specs as elfkit_read
pub mod Calls
