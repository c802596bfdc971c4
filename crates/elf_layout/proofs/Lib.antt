mod Apart
pub mod Capped
mod CappedMeeting
mod FirstMet
mod Lengths
mod Neighbours
pub mod Placed
mod Ranks
mod Sorting
mod Successive
pub mod Unique
