pub mod RangeLaws
mod WalkLaws
pub mod ImageLaws
pub mod CheckLaws
