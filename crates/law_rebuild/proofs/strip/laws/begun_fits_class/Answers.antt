use Rattle.law_rebuild.proofs.strip.WritableLaws.{begun_fits_class}
use Rattle.law_rebuild.proofs.strip.laws.begun_fits_class.Goals as goal

pub returns : goal.returns
returns c = begun_fits_class
