mod CallsLemmas
mod CallsUpdateLemmas
mod RehashLemmas
