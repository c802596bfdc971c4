pub mod Stated
pub mod Listed
pub mod Parts
pub mod Images
pub mod Plans
