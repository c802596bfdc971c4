pub mod DistinctLemmas
pub mod KeptLemmas
pub mod NamesLemmas
pub mod TableLemmas
