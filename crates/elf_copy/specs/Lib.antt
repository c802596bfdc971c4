pub use Rattle.rebuild_object.specs.rebuild_keep
pub mod Copies
