pub mod Faults
pub mod Files
pub mod Words
pub mod Writes
