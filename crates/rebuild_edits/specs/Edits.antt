pub mod Names
pub mod Edits
pub mod Steps
