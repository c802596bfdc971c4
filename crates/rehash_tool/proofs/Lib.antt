mod SectionLemmas
mod StepLemmas
mod CallLemmas
mod RehashLemmas
mod WriteLemmas
