mod ByteLemmas
mod CommandLemmas
mod FaultLemmas
mod FileLemmas
mod FillLemmas
mod NameLemmas
mod ReadLemmas
mod WriteLemmas
