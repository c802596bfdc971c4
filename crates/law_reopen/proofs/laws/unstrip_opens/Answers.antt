use Rattle.law_reopen.proofs.WrittenLaws.{unstrip_opens}
use Rattle.law_reopen.proofs.laws.unstrip_opens.Goals as goal

pub returns : goal.returns
returns c = unstrip_opens c.reopen_law.ensures
