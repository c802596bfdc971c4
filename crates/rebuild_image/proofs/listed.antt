mod PartLaws
pub mod StoreLaws
