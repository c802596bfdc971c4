pub mod CopyOpens
pub mod Passed
