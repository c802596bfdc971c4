pub use Rattle.tool_files.proofs as tool_files
mod ValueLemmas
mod ToldLemmas
mod ShiftLemmas
mod FileLemmas
