use Rattle.hash_build.proofs.GnuLaws.{bucket_is, ends_is}
use Rattle.hash_build.proofs.chains.ends_chain.Goals as goal

pub returns : goal.returns
returns c =
    ends_is c.args.nbuckets c.args.hashes.now c.args.i c.ends_before.result
    c.bucket_of-bucket.result c.bucket_of-next.result
    (bucket_is c.args.nbuckets c.args.hashes.now c.args.i c.hash_at-hash.result
    c.bucket_of-bucket.result c.hash_at-hash.ensures c.bucket_of-bucket.ensures.value)
    (bucket_is c.args.nbuckets c.args.hashes.now _ c.hash_at-later.result
    c.bucket_of-next.result c.hash_at-later.ensures c.bucket_of-next.ensures.value)
    c.ends_before.ensures
