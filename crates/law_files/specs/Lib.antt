pub mod Commands
pub mod Strip
pub mod Copy
