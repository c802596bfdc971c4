mod LentFields
mod Lending
pub mod WriteLaws
mod KeepLaws
