pub mod Overwrites
pub mod Walks
pub mod Writes
