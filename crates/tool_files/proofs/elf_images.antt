pub mod WriteLemmas
pub mod NamedLemmas
