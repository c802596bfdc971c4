pub mod Kinds
pub mod Indexes
pub mod Plans
pub mod Reading
pub mod Calls
