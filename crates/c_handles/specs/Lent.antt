pub mod Images
pub mod Loans
pub mod Writes
