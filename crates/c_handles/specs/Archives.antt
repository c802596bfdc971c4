pub mod Handles
pub mod Opening
