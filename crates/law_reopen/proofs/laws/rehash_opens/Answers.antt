use Rattle.law_reopen.proofs.WrittenLaws.{rehash_opens}
use Rattle.law_reopen.proofs.laws.rehash_opens.Goals as goal

pub returns : goal.returns
returns c = rehash_opens c.reopen_law.ensures
