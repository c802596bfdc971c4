mod WalkLemmas
mod ChainLemmas
mod EntryWalks
mod ReachLaws
