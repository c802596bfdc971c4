pub mod OddLemmas
mod PartLemmas
mod NameLemmas
