pub use Rattle.rebuild_files.proofs.tool_files
mod StripLemmas
mod WriteLemmas
