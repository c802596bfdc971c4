pub mod Extents
pub mod Capping
pub mod Layout
pub mod Meeting
