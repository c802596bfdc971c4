pub mod Built
pub mod Rehash
pub mod Find
