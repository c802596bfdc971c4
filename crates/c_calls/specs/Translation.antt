pub mod Numbers
pub mod Translations
