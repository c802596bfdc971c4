pub mod Ranges
pub mod Settles
