use Rattle.gelf_view.proofs.ChainLemmas.{fewer_left}
use Rattle.gelf_view.proofs.version_chains.VerdauxVersionName.next_of.Goals as goal

pub returns-clause-fewer : goal.returns-clause-fewer
returns-clause-fewer g c = fewer_left c.next_verdaux.result (λ x. x.next) c.args.place.now _ c.next_verdaux.ensures.behind
