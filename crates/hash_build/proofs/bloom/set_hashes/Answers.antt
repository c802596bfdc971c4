use Rattle.std.proofs.Common.{arith}
use Rattle.hash_build.proofs.BloomLaws.{begun_hashes, more_hashes, all_hashes}
use Rattle.hash_build.proofs.bloom.set_hashes.Goals as goal

pub loop-i-init : goal.loop-i-init
loop-i-init c =
    begun_hashes c.args.class c.args.shape c.args.words.now c.args.hashes.now c.requires.none

pub loop-i-preserved : goal.loop-i-preserved
loop-i-preserved c =
    more_hashes c.args.class c.args.shape c.loop-i.words c.set_listed.new.words c.args.hashes.now
    c.hash_at-hash.result c.loop-i.i (omega (arith, c.loop-i-test.true, c.len-count.ensures))
    c.hash_at-hash.ensures c.set_listed.ensures c.loop-i.invariant

pub set_listed-requires-clause-long : goal.set_listed-requires-clause-long
set_listed-requires-clause-long c = c.loop-i.invariant.long

pub returns : goal.returns
returns c =
    all_hashes c.args.class c.args.shape c.loop-i.words c.args.hashes.now c.loop-i.i
    c.len-count.result c.loop-i-test.false c.len-count.ensures c.loop-i.invariant
