use Rattle.law_reopen.proofs.KeptLaws.{split_images_combine}
use Rattle.law_reopen.proofs.laws.split_images_combine.Goals as goal

pub returns : goal.returns
returns c = split_images_combine c.split_images_open.ensures c.split_law.ensures
