use Rattle.std.proofs.Common.{◌-◌, length, refl, sym}
use Rattle.hash_build.specs.Gnu.{firsts_of}
use Rattle.hash_build.proofs.SysvLaws.{inside_same, begun_firsts, more_firsts, all_firsts}
use Rattle.hash_build.proofs.buckets.first_symbols.Goals as goal

pub loop-done-init : goal.loop-done-init
loop-done-init c =
    begun_firsts c.args.hashes.now c.args.nbuckets c.len-count.result 0 c.len-count.ensures
    c.args.buckets.now c.requires.none

pub loop-done-preserved : goal.loop-done-preserved
loop-done-preserved c =
    more_firsts c.args.hashes.now c.args.nbuckets c.len-count.result c.loop-done.done
    c.len-count.ensures (c.len-count.result - 1 - c.loop-done.done) c.hash_at-hash.result
    c.bucket_of-bucket.result c.loop-done-test.true refl c.hash_at-hash.ensures
    c.bucket_of-bucket.ensures.value c.bucket_of-bucket.ensures.below c.loop-done.buckets
    c.set_first.new.buckets c.set_first.ensures c.loop-done.invariant

pub set_first-requires-clause-bucket : goal.set_first-requires-clause-bucket
set_first-requires-clause-bucket c =
    inside_same c.bucket_of-bucket.result c.args.nbuckets (length c.loop-done.buckets)
    (sym c.loop-done.invariant.long) c.bucket_of-bucket.ensures.below

pub returns : goal.returns
unfolding firsts_of
returns c =
    all_firsts c.args.hashes.now c.args.nbuckets c.len-count.result c.loop-done.done
    c.len-count.ensures c.loop-done-test.false c.loop-done.buckets c.loop-done.invariant
