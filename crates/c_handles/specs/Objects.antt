pub mod Handles
pub mod Objects
