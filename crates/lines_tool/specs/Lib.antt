pub mod Rows
pub mod Units
pub mod Tables
pub mod Tool
