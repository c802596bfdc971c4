pub mod Rooms
pub mod Loads
pub mod Marks
pub mod Fronts
pub mod Updates
pub mod Moves
pub mod Writes
