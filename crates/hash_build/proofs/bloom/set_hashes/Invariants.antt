use Rattle.std.proofs.Common.{take}
use Rattle.hash_build.specs.Gnu.{HasHashes}
use Rattle.hash_build.proofs.bloom.set_hashes.Given as goal

abbrev pub invariant-loop-i : goal.invariant-loop-i
invariant-loop-i l = HasHashes l.class l.shape l.words (take l.i l.hashes)
