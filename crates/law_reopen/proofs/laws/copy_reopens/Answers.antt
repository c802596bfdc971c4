use Rattle.law_reopen.proofs.WrittenLaws.{copy_reopens}
use Rattle.law_reopen.proofs.laws.copy_reopens.Goals as goal

pub returns : goal.returns
returns c = copy_reopens c.reopen_law.ensures
