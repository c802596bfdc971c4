pub mod OneTable
pub mod Ends
pub mod HeldItems
pub mod Passing
mod ItemPlaces
