pub mod Digits
pub mod Operands
pub mod Fields
pub mod Lists
pub mod Names
pub mod Running
pub mod Made
pub mod Words
