-- The sum of the bytes so far.
use Rattle.std.proofs.Common.{◌≡◌, take}
use Rattle.bench_translation.specs.Sums.{with_all}
use Rattle.bench_translation.proofs.sum.sum_of_bytes.Given as goal

abbrev pub invariant-loop-byte : goal.invariant-loop-byte
invariant-loop-byte l = l.sum ≡ with_all 0 (take l.byte-index l.bytes)
