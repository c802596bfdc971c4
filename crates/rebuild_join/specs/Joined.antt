pub mod Answers
pub mod Joined
pub mod Filled
