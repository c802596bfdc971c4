pub mod Applies
pub mod Fields
pub mod Forms
pub mod Stated
