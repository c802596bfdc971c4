mod AtHandLemmas
pub mod BlockLemmas
mod LineLemmas
