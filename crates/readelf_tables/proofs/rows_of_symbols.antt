mod RowLemmas
mod LineLemmas
mod NameLemmas
