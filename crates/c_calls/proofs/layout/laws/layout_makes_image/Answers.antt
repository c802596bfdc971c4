use Rattle.c_calls.proofs.layout.ImageLaws as laws
use Rattle.c_calls.proofs.layout.laws.layout_makes_image.Goals as goal

pub returns : goal.returns
returns c = laws.layout_makes_image
