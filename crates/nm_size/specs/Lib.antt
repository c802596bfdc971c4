pub use Rattle.nm_tool.specs as nm_tool
pub use Rattle.size_tool.specs as size_tool
pub use Rattle.strings_tool.specs as strings_tool
