pub mod Halves
pub mod Getters
pub mod Files
