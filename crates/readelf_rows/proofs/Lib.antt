pub mod DataLemmas
pub mod FrontLemmas
pub mod LinkLemmas
pub mod ShortNames
mod SignedLemmas
pub mod TextLemmas
