-- Header and tables are written as they were read, as the laws of their translation say.
use Rattle.law_object.proofs.writing.BasedBeginnings.{beginnings_are_based}
use Rattle.law_object.proofs.writing.based.beginnings_are_based.Goals as goal

pub returns : goal.returns
returns c = beginnings_are_based (record {
  ehdr = c.ehdr_both_ways.ensures.read;
  phdr = c.phdr_both_ways.ensures.read;
  shdr = c.shdr_both_ways.ensures.read;
})
