pub mod Written
pub mod FileLaws
