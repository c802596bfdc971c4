pub mod Chains
pub mod Notes
pub mod Entries
pub mod Definitions
pub mod Needs
