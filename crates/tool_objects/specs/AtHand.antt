pub mod Strings
pub mod Items
pub mod Passed
