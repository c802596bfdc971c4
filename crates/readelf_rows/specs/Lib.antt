pub mod Fields
pub mod Fronts
pub mod Links
pub mod Data
