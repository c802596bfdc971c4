-- What is written is reopened, and items are encoded as they were decoded, as two laws say.
use Rattle.law_rebuild.proofs.copy.CopyLaw.{copy_law}
use Rattle.law_rebuild.proofs.copy.laws.copy_law.Goals as goal

pub returns : goal.returns
returns c = copy_law c.reopen_law.ensures c.encodes_as_decoded.ensures
