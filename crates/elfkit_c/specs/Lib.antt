pub mod Archives
pub mod Handles
pub mod Writes
pub mod Layout
