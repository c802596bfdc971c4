use Rattle.std.proofs.Common.{◌≤◌}
use Rattle.elf_calls_generate.specs.Stages.{AreSymbols}
use Rattle.elf_calls_generate.proofs.symbols.add_symbols.Given as goal

abbrev pub invariant-loop-k : goal.invariant-loop-k
invariant-loop-k l = record {
  are : AreSymbols l.n l.k l.symbols l.strings;
  within : l.k ≤ l.n;
}
