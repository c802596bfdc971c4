pub mod HashLemmas
mod NumberLemmas
