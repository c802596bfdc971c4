use Rattle.std.proofs.Common.{◌≡◌, ◌++◌}
use Rattle.hash_build.proofs.GnuLaws.{chains_to}
use Rattle.hash_build.proofs.chains.append_chains.Given as goal

abbrev pub invariant-loop-k : goal.invariant-loop-k
invariant-loop-k l = l.words ≡ l.initial.words ++ chains_to l.nbuckets l.hashes l.from l.k
