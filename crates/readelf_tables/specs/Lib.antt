pub mod Tables
pub mod Symbols
pub mod Relocations
pub mod Dynamic
pub mod Indexes
pub mod Constants
pub mod Blocks
pub mod RowsOfSymbols
