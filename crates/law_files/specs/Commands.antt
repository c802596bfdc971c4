pub mod SelftestSizes
pub mod SelftestLaw
pub mod Samples
