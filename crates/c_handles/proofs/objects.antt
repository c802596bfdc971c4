pub mod AnyObject
mod Boxes
pub mod ImageLaws
mod LooseFields
pub mod Openings
