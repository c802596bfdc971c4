mod UpdateLemmas
