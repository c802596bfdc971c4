use Rattle.hash_build.proofs.GnuLaws.{word_ended, word_open}
use Rattle.hash_build.proofs.chains.chain_word.Goals as goal

pub returns-then-ends_chain : goal.returns-then-ends_chain
returns-then-ends_chain c =
    word_ended c.args.nbuckets c.args.hashes.now c.args.i c.hash_or_0-hash.result
    c.hash_at-listed.result c.ends_chain.result c.hash_or_0-hash.ensures
    c.hash_at-listed.ensures c.ends_chain.ensures c.if-ends_chain.true

pub returns : goal.returns
returns c =
    word_open c.args.nbuckets c.args.hashes.now c.args.i c.hash_or_0-hash.result
    c.hash_at-listed.result c.ends_chain.result c.hash_or_0-hash.ensures
    c.hash_at-listed.ensures c.ends_chain.ensures c.if-ends_chain.false
