mod RangeLaws
pub mod KeptLaws
mod FirstLaws
