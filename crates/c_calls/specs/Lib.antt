pub mod Archives
pub mod Translation
pub mod Editing
pub mod Updating
pub mod Writes
pub mod Layout
