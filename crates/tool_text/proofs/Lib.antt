mod LastLemmas
