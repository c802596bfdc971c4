use Rattle.std.proofs.Common.{arith}
use Rattle.hash_build.proofs.GnuLaws.{unsorted_begun, unsorted_more, unsorted_found, unsorted_none}
use Rattle.hash_build.proofs.buckets.first_unsorted.Goals as goal

pub loop-i-init : goal.loop-i-init
loop-i-init c = unsorted_begun c.args.nbuckets c.args.hashes.now

pub loop-i-preserved : goal.loop-i-preserved
loop-i-preserved c =
    unsorted_more c.args.nbuckets c.args.hashes.now c.loop-i.i c.is_unsorted_at.result
    (omega (arith, c.loop-i-test.true, c.len-count.ensures)) c.is_unsorted_at.ensures
    c.if-is_unsorted_at.false c.loop-i.invariant

pub returns-then-is_unsorted_at : goal.returns-then-is_unsorted_at
returns-then-is_unsorted_at c =
    unsorted_found c.args.nbuckets c.args.hashes.now c.loop-i.i c.is_unsorted_at.result
    (omega (arith, c.loop-i-test.true, c.len-count.ensures)) c.is_unsorted_at.ensures
    c.if-is_unsorted_at.true c.loop-i.invariant

pub returns : goal.returns
returns c =
    unsorted_none c.args.nbuckets c.args.hashes.now c.loop-i.i
    (omega (arith, c.loop-i-test.false, c.len-count.ensures)) c.loop-i.invariant
