use Rattle.elfkit_read.specs.Readelf.{readelf_outcome}
use Rattle.elfkit_read.proofs.commands.readelf.run_readelf.Goals as goal

pub returns-clause-does : goal.returns-clause-does
unfolding readelf_outcome
returns-clause-does g c = λ told. rw (← c.len.ensures) (rw (← c.under.ensures) (c.each_object.ensures.does told))
