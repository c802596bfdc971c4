use Rattle.law_hash.proofs.RehashAgain as laws
use Rattle.law_hash.proofs.laws.rehash_law.Goals as goal

pub returns : goal.returns
returns c = laws.rehash_law c.rehash_writes.ensures
