use Rattle.std.proofs.Common.{arith}
use Rattle.gelf_view.specs.declared.versions.TheConstants.{VERDEF_SIZE}
use Rattle.gelf_view.proofs.ChainLemmas.{lies_before}
use Rattle.gelf_view.proofs.version_chains.VerdefVersionEntry.entry_at.Goals as goal

pub returns-clause-within : goal.returns-clause-within
returns-clause-within g c = lies_before c.verdef.result c.args.at VERDEF_SIZE _ (omega arith) c.verdef.ensures.within
