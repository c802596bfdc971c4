pub use Rattle.calls_tool.specs as calls_tool
pub mod Phdrs
pub mod Scripts
pub mod Written
pub mod Kept
pub mod Rehash
