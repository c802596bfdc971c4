mod ReadLaws
pub mod ListedLaws
pub mod CallLaws
pub mod RangeLaws
mod SysvLaws
pub mod OrderLaws
pub mod BloomLaws
mod EncodingLaws
mod GnuLaws
