use Rattle.law_reopen.proofs.KeptLaws.{stripped_image_keeps}
use Rattle.law_reopen.proofs.laws.stripped_image_keeps.Goals as goal

pub returns : goal.returns
returns c = stripped_image_keeps c.reopen_law.ensures c.stripped_half_keeps.ensures
