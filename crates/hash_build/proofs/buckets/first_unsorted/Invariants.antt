use Rattle.std.proofs.Common.{◌≡◌}
use Rattle.symbol_lookup.specs.hash_model.BuiltHashes.{first_unsorted}
use Rattle.hash_build.specs.Hashed.{buckets_by}
use Rattle.hash_build.proofs.GnuLaws.{left_from}
use Rattle.hash_build.proofs.buckets.first_unsorted.Given as goal

abbrev pub invariant-loop-i : goal.invariant-loop-i
invariant-loop-i l =
    left_from l.nbuckets l.hashes l.i ≡ first_unsorted (buckets_by l.nbuckets l.hashes)
