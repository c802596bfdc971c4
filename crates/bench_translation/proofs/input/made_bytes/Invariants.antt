-- One byte a step.
use Rattle.std.proofs.Common.{◌≡◌, length}
use Rattle.bench_translation.proofs.input.made_bytes.Given as goal

abbrev pub invariant-loop : goal.invariant-loop
invariant-loop l = length l.bytes ≡ l.counter
