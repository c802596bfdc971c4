pub use Rattle.rebuild_select.proofs.gelf_view
pub use Rattle.rebuild_making.proofs as rebuild_making
pub use Rattle.rebuild_names.proofs as rebuild_names
pub use Rattle.rebuild_select.proofs as rebuild_select
pub mod PlaceLaws
pub mod TextLaws
pub mod TableLaws
pub mod StoreLaws
pub mod edits
