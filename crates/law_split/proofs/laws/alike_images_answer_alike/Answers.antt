use Rattle.law_split.proofs.AlikeImages.{alike_images_answer_alike}
use Rattle.law_split.proofs.laws.alike_images_answer_alike.Goals as goal

pub returns : goal.returns
returns c = alike_images_answer_alike
