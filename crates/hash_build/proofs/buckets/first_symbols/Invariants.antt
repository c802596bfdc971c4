use Rattle.std.proofs.Common.{◌-◌, length}
use Rattle.hash_build.specs.Hashed.{buckets_by}
use Rattle.hash_build.proofs.RangeLaws.{AreFirsts}
use Rattle.hash_build.proofs.buckets.first_symbols.Given as goal

abbrev pub invariant-loop-done : goal.invariant-loop-done
invariant-loop-done l =
    AreFirsts (buckets_by l.nbuckets l.hashes) l.nbuckets (length l.hashes - l.done) l.done
    l.buckets
