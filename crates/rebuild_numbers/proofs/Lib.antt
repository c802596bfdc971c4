pub use Rattle.rebuild_select.proofs.elf_descriptor
pub use Rattle.rebuild_select.proofs as rebuild_select
mod PlaceLaws
mod NumberLaws
mod RowLaws
mod GroupLaws
mod SymLaws
