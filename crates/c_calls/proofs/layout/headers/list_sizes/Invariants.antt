use Rattle.c_calls.proofs.layout.ListLaws.{SizesBelow}
use Rattle.c_calls.proofs.layout.headers.list_sizes.Given as goal

abbrev pub invariant-loop-s : goal.invariant-loop-s
invariant-loop-s l = SizesBelow l.headers l.sizes l.s
