use Rattle.law_reopen.proofs.KeptLaws.{split_images_open}
use Rattle.law_reopen.proofs.laws.split_images_open.Goals as goal

pub returns : goal.returns
returns c = split_images_open c.reopen_law.ensures
