pub mod Masks
pub mod Runs
pub mod Texts
pub mod Homes
pub mod Tool
pub mod Skips
pub mod Scans
