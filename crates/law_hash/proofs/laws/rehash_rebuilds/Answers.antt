use Rattle.law_hash.proofs.RebuiltAgain as laws
use Rattle.law_hash.proofs.laws.rehash_rebuilds.Goals as goal

pub returns : goal.returns
returns c = laws.rehash_rebuilt c.reopen_law.ensures c.settling_keeps_items.ensures
