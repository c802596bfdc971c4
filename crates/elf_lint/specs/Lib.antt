pub mod Rules
pub mod Survey
pub mod Reach
