pub use Rattle.elf_outside.proofs as elf_outside
pub mod EndLemmas
pub mod FileLemmas
pub mod MadeLemmas
mod MarkLemmas
pub mod OutcomeLemmas
mod PageLemmas
pub mod ReportLemmas
mod Rows
pub mod SourceLemmas
pub mod StepLemmas
pub mod UnderWayLemmas
