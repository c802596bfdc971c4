pub mod Runs
pub mod Loaded
pub mod Copied
pub mod Rehashed
pub mod Rejoined
pub mod Opened
