use Rattle.readelf_chains.proofs.NoteLemmas.{owner_found, owner_all}
use Rattle.readelf_chains.proofs.notes.owner_in.Goals as goal

pub returns-in-Some : goal.returns-in-Some
returns-in-Some c = owner_found c.args.name.now _ c.in-Some.ensures

pub returns-in-None : goal.returns-in-None
returns-in-None c = owner_all c.args.name.now c.in-None.ensures
