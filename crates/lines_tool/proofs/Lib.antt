mod TableLemmas
mod UnitLemmas
