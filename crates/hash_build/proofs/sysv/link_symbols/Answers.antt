use Rattle.std.proofs.Common.{◌-◌, length, refl, sym, arith}
use Rattle.hash_build.proofs.SysvLaws.{inside_same, begun_firsts, begun_nexts, more_firsts, more_nexts, all_firsts, all_nexts}
use Rattle.hash_build.proofs.RangeLaws.{buckets_long}
use Rattle.hash_build.proofs.sysv.link_symbols.Goals as goal

pub loop-done-init : goal.loop-done-init
loop-done-init c = record {
  firsts = begun_firsts c.args.hashes.now c.args.nbucket c.len-count.result 0 c.len-count.ensures
      c.args.buckets.now c.requires.buckets;
  nexts = begun_nexts c.args.hashes.now c.args.nbucket c.len-count.result 0 c.len-count.ensures
      c.args.chains.now c.requires.chains;
}

pub loop-done-preserved : goal.loop-done-preserved
loop-done-preserved c =
    let count = c.len-count.result in
    let done = c.loop-done.done in record {
      firsts = more_firsts c.args.hashes.now c.args.nbucket count done c.len-count.ensures
          (count - 1 - done) c.hash_at-hash.result c.bucket_of-bucket.result c.loop-done-test.true refl
          c.hash_at-hash.ensures c.bucket_of-bucket.ensures.value c.bucket_of-bucket.ensures.below
          c.loop-done.buckets c.link_symbol.new.buckets c.link_symbol.ensures.buckets
          c.loop-done.invariant.firsts;
      nexts = more_nexts c.args.hashes.now c.args.nbucket count done c.len-count.ensures
          (count - 1 - done) c.hash_at-hash.result c.bucket_of-bucket.result c.loop-done-test.true refl
          c.hash_at-hash.ensures c.bucket_of-bucket.ensures.value c.bucket_of-bucket.ensures.below
          c.loop-done.buckets c.loop-done.chains c.link_symbol.new.chains
          c.link_symbol.ensures.chains c.loop-done.invariant.firsts c.loop-done.invariant.nexts;
    }

pub link_symbol-requires-clause-bucket : goal.link_symbol-requires-clause-bucket
link_symbol-requires-clause-bucket c =
    inside_same c.bucket_of-bucket.result c.args.nbucket (length c.loop-done.buckets)
    (sym c.loop-done.invariant.firsts.long) c.bucket_of-bucket.ensures.below

pub link_symbol-requires-clause-there : goal.link_symbol-requires-clause-there
link_symbol-requires-clause-there c =
    omega (
      arith,
      c.loop-done.invariant.nexts.long,
      c.len-count.ensures,
      c.loop-done-test.true,
      buckets_long c.args.nbucket c.args.hashes.now,
    )

pub returns-clause-buckets : goal.returns-clause-buckets
returns-clause-buckets c =
    all_firsts c.args.hashes.now c.args.nbucket c.len-count.result c.loop-done.done
    c.len-count.ensures c.loop-done-test.false c.loop-done.buckets c.loop-done.invariant.firsts

pub returns-clause-chains : goal.returns-clause-chains
returns-clause-chains c =
    all_nexts c.args.hashes.now c.args.nbucket c.len-count.result c.loop-done.done
    c.len-count.ensures c.loop-done-test.false c.loop-done.chains c.loop-done.invariant.nexts
