pub use Rattle.rebuild_changes.specs as rebuild_changes
pub mod Forms
pub mod Notices
pub mod Numbers
pub mod Reading
pub mod Rules
pub mod Splitting
pub mod Usages
