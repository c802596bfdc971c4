pub mod Written
pub mod Extents
pub mod Changes
