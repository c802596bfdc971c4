pub mod GivesLemmas
