use Rattle.std.proofs.Common.{subst}
use Rattle.symbol_lookup.specs.declared.walks.Links.{Links}
use Rattle.symbol_lookup.specs.Searches.{HasLinks}
use Rattle.symbol_lookup.proofs.walking.next_on.Goals as goal

pub returns-in-Sysv-clause-searches : goal.returns-in-Sysv-clause-searches
returns-in-Sysv-clause-searches g c = λ n has. c.sysv_next.ensures.searches n (subst (λ (l : Links). HasLinks n c.args.elf.now.o c.args.h.0 l) c.in-Sysv.is has)

pub returns-in-Gnu-clause-searches : goal.returns-in-Gnu-clause-searches
returns-in-Gnu-clause-searches g c = λ n has. c.gnu_next.ensures.searches n (subst (λ (l : Links). HasLinks n c.args.elf.now.o c.args.h.0 l) c.in-Gnu.is has)
