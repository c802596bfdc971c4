use Rattle.ar_members.proofs.NameLemmas.{EndsFrom}
use Rattle.ar_members.proofs.names.up_to_end.Given as goal

abbrev pub invariant-loop-i : goal.invariant-loop-i
invariant-loop-i l = EndsFrom l.text l.i
