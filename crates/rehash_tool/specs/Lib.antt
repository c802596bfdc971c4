pub mod Sections
pub mod Steps
pub mod Writes
