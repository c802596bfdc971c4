pub mod Edited
pub mod From
