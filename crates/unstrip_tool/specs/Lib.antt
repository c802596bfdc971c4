pub mod Allocated
pub mod Splitting
pub mod Copies
pub mod Writes
pub mod Refusing
pub mod Joins
