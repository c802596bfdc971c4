use Rattle.std.proofs.Common.{arith}
use Rattle.gelf_view.specs.declared.versions.TheConstants.{VERNEED_SIZE}
use Rattle.gelf_view.proofs.ChainLemmas.{lies_before}
use Rattle.gelf_view.proofs.version_chains.VerneedVersionEntry.entry_at.Goals as goal

pub returns-clause-within : goal.returns-clause-within
returns-clause-within g c = lies_before c.verneed.result c.args.at VERNEED_SIZE _ (omega arith) c.verneed.ensures.within
