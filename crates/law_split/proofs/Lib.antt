pub mod Again
pub mod Whole
pub mod Placed
pub mod DebugHalf
pub mod StrippedHalf
mod Matching
mod Inside
mod Counterparts
mod CombinedSections
mod Combined
mod CombineFaults
mod CombineLaws
mod Overlaps
mod Extents
mod TailBounds
mod LaidParts
mod ProgramParts
mod SplitLaws
mod AlikeSections
mod Getters
mod Lookups
mod AlikeImages
