-- What is written is opened again, and settling keeps what has items of its own.
use Rattle.law_hash.proofs.RehashAgain as laws
use Rattle.law_hash.proofs.laws.rehash_writes.Goals as goal

pub returns : goal.returns
returns c = laws.rehash_writes c.reopen_law.ensures c.settling_keeps_items.ensures
