use Rattle.law_reopen.proofs.CallsLaws.{calls_reopen}
use Rattle.law_reopen.proofs.laws.calls_reopen.Goals as goal

pub returns : goal.returns
returns c = calls_reopen c.reopen_law.ensures
