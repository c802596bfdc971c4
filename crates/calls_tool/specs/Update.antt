pub mod Outputs
pub mod Updates
pub mod Writes
pub mod Changes
