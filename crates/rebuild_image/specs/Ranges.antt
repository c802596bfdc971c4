pub mod Ranges
pub mod Images
