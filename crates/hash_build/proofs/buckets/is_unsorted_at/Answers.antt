use Rattle.hash_build.proofs.GnuLaws.{bucket_is, unsorted_is}
use Rattle.hash_build.proofs.buckets.is_unsorted_at.Goals as goal

pub returns : goal.returns
returns c =
    unsorted_is c.args.nbuckets c.args.hashes.now c.args.i c.is_unsorted_after.result
    c.bucket_of-before.result c.bucket_of-next.result
    (bucket_is c.args.nbuckets c.args.hashes.now _ c.hash_at-earlier.result
    c.bucket_of-before.result c.hash_at-earlier.ensures c.bucket_of-before.ensures.value)
    (bucket_is c.args.nbuckets c.args.hashes.now c.args.i c.hash_at-hash.result
    c.bucket_of-next.result c.hash_at-hash.ensures c.bucket_of-next.ensures.value)
    c.is_unsorted_after.ensures
