use Rattle.std.proofs.Common.{◌≡◌, ◌<◌, ℕ, false}
use Rattle.hash_build.proofs.GnuLaws.{is_hashed}
use Rattle.hash_build.proofs.buckets.first_hashed.Given as goal

abbrev pub invariant-loop-i : goal.invariant-loop-i
invariant-loop-i l = (k : ℕ) → k < l.i → is_hashed l.hashes k ≡ false
