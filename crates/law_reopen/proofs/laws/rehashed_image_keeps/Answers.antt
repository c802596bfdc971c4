use Rattle.law_reopen.proofs.KeptLaws.{rehashed_image_keeps}
use Rattle.law_reopen.proofs.laws.rehashed_image_keeps.Goals as goal

pub returns : goal.returns
returns c = rehashed_image_keeps c.rehash_opens.ensures c.rehash_law.ensures
