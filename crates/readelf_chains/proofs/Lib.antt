mod ChainLemmas
mod NoteLemmas
mod EntryLemmas
mod HexLemmas
