-- Header and tables are read back as the laws of their translation say.
use Rattle.law_object.proofs.SettledLaws.{reopen_law}
use Rattle.law_object.proofs.laws.reopen_law.Goals as goal

pub returns : goal.returns
returns c = reopen_law (record {
  ehdr = c.ehdr_both_ways.ensures.written;
  phdr = c.phdr_both_ways.ensures.written;
  shdr = c.shdr_both_ways.ensures.written;
})
