mod Folds
pub mod FormsHold
mod Groups
mod Letters
mod Numerals
mod OneSplit
mod OptionRules
mod Splits
mod ValuesRead
