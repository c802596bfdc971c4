use Rattle.ar_members.proofs.SymbolLemmas.{SymbolsFrom}
use Rattle.ar_members.proofs.symbols.named_symbols.Given as goal

abbrev pub invariant-loop-i : goal.invariant-loop-i
invariant-loop-i l = SymbolsFrom l.count l.offsets l.names l.symbols l.i l.rest
