use Rattle.std.proofs.Common.{◌≡◌, drop}
use Rattle.std.specs.List.{fold}
use Rattle.symbol_hashes.proofs.HashLemmas.{gnu_step}
use Rattle.symbol_hashes.proofs.hashes.gnu_hash.Given as goal

abbrev pub invariant-loop-byte : goal.invariant-loop-byte
invariant-loop-byte l = fold gnu_step l.h (drop l.byte-index l.name) ≡ fold gnu_step 5381 l.name
