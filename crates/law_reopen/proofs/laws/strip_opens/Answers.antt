use Rattle.law_reopen.proofs.WrittenLaws.{strip_opens}
use Rattle.law_reopen.proofs.laws.strip_opens.Goals as goal

pub returns : goal.returns
returns c = strip_opens c.reopen_law.ensures
