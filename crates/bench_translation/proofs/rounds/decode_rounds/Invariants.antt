-- The sum after the rounds so far.
use Rattle.std.proofs.Common.{◌≡◌, take}
use Rattle.elf_types.specs.declared.records.Kind.TheVariants as kinds
use Rattle.elf_xlate.specs.Translation.{decoded}
use Rattle.bench_translation.specs.Sums.{with_symbols, symbols_of_items}
use Rattle.bench_translation.proofs.rounds.decode_rounds.Given as goal

abbrev pub invariant-loop-round : goal.invariant-loop-round
invariant-loop-round l =
    l.sum ≡ with_symbols l.first (take l.round (symbols_of_items (decoded kinds.Sym l.work.class l.work.order l.bytes)))
