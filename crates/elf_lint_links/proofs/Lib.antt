mod LinkLemmas
mod DynamicLemmas
