pub mod Elflint
pub mod Lines
pub mod Nm
pub mod Objects
pub mod Readelf
pub mod Size
pub mod Strings
pub mod Titles
