mod SumLemmas
mod TableSums
mod FrontSums
