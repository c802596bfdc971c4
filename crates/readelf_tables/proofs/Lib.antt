mod TableLemmas
mod SymbolLemmas
mod RelocationLemmas
mod DynamicLemmas
