mod Sorting
mod ListedLemmas
mod PoolLemmas
mod KeptLemmas
mod ToolLemmas
mod Keys
mod FoundTable
mod RowLemmas
mod Ranking
mod NameFronts
mod PlaceLemmas
mod PlainLemmas
mod HeldLemmas
mod HeaderLemmas
pub mod FrontLemmas
pub mod FrontSteps
mod Runs
