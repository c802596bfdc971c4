use Rattle.std.proofs.Common.{◌-◌, length}
use Rattle.hash_build.specs.Hashed.{buckets_by}
use Rattle.hash_build.proofs.RangeLaws.{AreFirsts, AreNexts}
use Rattle.hash_build.proofs.sysv.link_symbols.Given as goal

abbrev pub invariant-loop-done : goal.invariant-loop-done
invariant-loop-done l = record {
  firsts : AreFirsts (buckets_by l.nbucket l.hashes) l.nbucket (length l.hashes - l.done) l.done
      l.buckets;
  nexts : AreNexts (buckets_by l.nbucket l.hashes) (length l.hashes - l.done) l.chains;
}
