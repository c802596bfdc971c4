-- The sum after the rounds so far.
use Rattle.std.proofs.Common.{◌≡◌, take}
use Rattle.elf_xlate.specs.Translation.{encoded}
use Rattle.bench_translation.specs.Sums.{with_all}
use Rattle.bench_translation.proofs.rounds.encode_rounds.Given as goal

abbrev pub invariant-loop-round : goal.invariant-loop-round
invariant-loop-round l =
    l.sum ≡ with_all (with_all 0 (encoded l.work.class l.work.order l.items)) (take l.round (encoded l.work.class l.work.order l.items))
