use Rattle.law_reopen.proofs.WrittenLaws.{debug_opens}
use Rattle.law_reopen.proofs.laws.debug_opens.Goals as goal

pub returns : goal.returns
returns c = debug_opens c.reopen_law.ensures
