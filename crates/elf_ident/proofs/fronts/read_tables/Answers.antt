use Rattle.elf_ident.proofs.TableLemmas.{told_same}
use Rattle.elf_ident.proofs.fronts.read_tables.Goals as goal

pub returns-clause-phdrs : goal.returns-clause-phdrs
returns-clause-phdrs g c = rw c.from.ensures at c.in_ok-phdrs.ensures.value

pub returns-clause-shdrs : goal.returns-clause-shdrs
returns-clause-shdrs g c = told_same _ _ (g.S.Source.holds c.args.src.now) c.in_ok-phdrs.ensures.asks.leaves.same_bytes c.in_ok-shdrs.ensures.value
