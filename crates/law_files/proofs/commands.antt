mod NumberLemmas
pub mod NameLemmas
pub mod TableLemmas
pub mod RowLemmas
pub mod GeneratedObject
mod GeneratedIs
mod PlacedEnds
mod GeneratedParts
pub mod GeneratedImage
mod StringLemmas
mod GeneratedAgain
mod LookupLemmas
mod SelftestLaws
pub mod SortedLemmas
pub mod Computing
