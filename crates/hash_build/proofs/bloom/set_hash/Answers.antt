use Rattle.hash_build.proofs.BloomLaws.{hash_more}
use Rattle.hash_build.proofs.bloom.set_hash.Goals as goal

pub returns : goal.returns
returns c =
    hash_more c.args.class c.args.shape c.args.words.now c.set_addr.new.words c.args.hash
    c.bloom_bits-bits.result c.from-at.result c.addr_at-word.result c.with_bit-once.result
    c.with_bit-twice.result c.shifted.result c.requires.some c.requires.long
    c.bloom_bits-bits.ensures.value c.from-at.ensures c.addr_at-word.ensures
    c.with_bit-once.ensures c.shifted.ensures c.with_bit-twice.ensures c.set_addr.ensures
