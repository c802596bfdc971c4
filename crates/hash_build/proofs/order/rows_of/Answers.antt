use Rattle.hash_build.proofs.OrderLaws.{rows_more, rows_all}
use Rattle.hash_build.proofs.order.rows_of.Goals as goal

pub loop-i-init : goal.loop-i-init
loop-i-init c = c.in_ok-rows.ensures.items

pub loop-i-preserved : goal.loop-i-preserved
loop-i-preserved c =
    rows_more c.args.nbuckets c.loop-i.i c.args.hashes.now c.loop-i.rows.items
    c.push.new.self.items c.hash_at-hash.result c.bucket_of-bucket.result c.key_of.result
    c.hash_at-hash.ensures c.bucket_of-bucket.ensures.value c.key_of.ensures c.loop-i.invariant
    c.in_ok-push.ensures.items

pub returns-clause-ok : goal.returns-clause-ok
returns-clause-ok c =
    rows_all c.args.nbuckets c.len-count.result c.args.hashes.now c.loop-i.rows.items c.loop-i.i
    c.len-count.ensures c.loop-i-test.false c.loop-i.auto.i-end c.loop-i.invariant
