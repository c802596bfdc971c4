pub mod SymbolLines
pub mod Fronts
pub mod SymbolBytes
