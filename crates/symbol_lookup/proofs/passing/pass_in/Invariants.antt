use Rattle.std.proofs.Common.{ℕ, ◌≤◌, ◌<◌}
use Rattle.symbol_lookup.specs.Searches.{LacksSymbol}
use Rattle.symbol_lookup.proofs.passing.pass_in.Given as goal

abbrev pub invariant-loop-i : goal.invariant-loop-i
invariant-loop-i l = (j : ℕ) → l.from ≤ j → j < l.i → LacksSymbol l.form.0 l.form.1 l.symbols l.strings l.name j
