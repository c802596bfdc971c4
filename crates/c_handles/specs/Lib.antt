pub mod Lent
pub mod Objects
pub mod Archives
pub mod Writes
pub mod Layout
