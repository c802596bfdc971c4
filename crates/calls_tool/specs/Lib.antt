pub mod Lines
pub mod Reads
pub mod Runs
pub mod Scripts
pub mod Files
pub mod Update
