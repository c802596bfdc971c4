-- What is written is reopened, as a law says.
use Rattle.law_rebuild.proofs.copy.CopySteps.{copy_opens}
use Rattle.law_rebuild.proofs.copy.laws.copy_opens.Goals as goal

pub returns : goal.returns
returns c = copy_opens c.reopen_law.ensures
