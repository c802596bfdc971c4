-- Lemmas of the crates below that tactics of the crates above name.
pub use Rattle.gelf_view.proofs.section_data.Rules.{item_bytes}
