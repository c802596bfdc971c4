use Rattle.law_reopen.proofs.KeptLaws.{debug_image_keeps}
use Rattle.law_reopen.proofs.laws.debug_image_keeps.Goals as goal

pub returns : goal.returns
returns c = debug_image_keeps c.debug_opens.ensures c.debug_half_keeps.ensures
