use Rattle.law_reopen.proofs.KeptLaws.{split_images_match}
use Rattle.law_reopen.proofs.laws.split_images_match.Goals as goal

pub returns : goal.returns
returns c =
    split_images_match c.split_images_open.ensures c.halves_match.ensures
    c.halves_combine.ensures
