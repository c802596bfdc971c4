mod Positions
pub mod PlainLaws
