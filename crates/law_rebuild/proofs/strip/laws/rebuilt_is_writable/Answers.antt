use Rattle.law_rebuild.proofs.strip.WritableLaws.{rebuilt_is_writable}
use Rattle.law_rebuild.proofs.strip.laws.rebuilt_is_writable.Goals as goal

pub returns : goal.returns
returns c = rebuilt_is_writable
