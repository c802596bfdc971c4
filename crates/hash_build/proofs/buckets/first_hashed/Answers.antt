use Rattle.std.proofs.Common.{arith}
use Rattle.hash_build.proofs.GnuLaws.{none_more, is_first, first_is}
use Rattle.hash_build.proofs.buckets.first_hashed.Goals as goal

pub loop-i-init : goal.loop-i-init
loop-i-init c = λ k below. absurd (omega (arith, below))

pub loop-i-preserved : goal.loop-i-preserved
loop-i-preserved c =
    none_more c.args.hashes.now c.loop-i.i c.hash_at-hash.result c.is_listed.result
    c.hash_at-hash.ensures c.is_listed.ensures c.if-is_listed.false c.loop-i.invariant

pub returns-then-is_listed-clause-value : goal.returns-then-is_listed-clause-value
returns-then-is_listed-clause-value c =
    first_is c.args.hashes.now c.loop-i.i
    (omega (arith, c.loop-i-test.true, c.len-count.ensures)) c.loop-i.invariant
    (λ within. is_first c.args.hashes.now c.loop-i.i c.hash_at-hash.result c.is_listed.result
    c.hash_at-hash.ensures c.is_listed.ensures c.if-is_listed.true)

pub returns-clause-value : goal.returns-clause-value
returns-clause-value c =
    first_is c.args.hashes.now c.len-count.result (omega (arith, c.len-count.ensures))
    (λ k below. c.loop-i.invariant k (omega (arith, below, c.loop-i-test.false)))
    (λ within. absurd (omega (arith, within, c.len-count.ensures)))
