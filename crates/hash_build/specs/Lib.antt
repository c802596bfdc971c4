pub mod Hashed
pub mod Tables
pub mod Reading
pub mod Calls
pub mod Rows
pub mod Gnu
