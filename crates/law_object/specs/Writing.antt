pub mod Lines
pub mod Plan
pub mod Marks
pub mod Ready
pub mod Based
pub mod Writing
pub mod Examples
