use Rattle.rebuild_making.proofs.StoreLaws.{StoresBelow}
use Rattle.rebuild_making.proofs.places.store_places.Given as goal

abbrev pub invariant-loop-s : goal.invariant-loop-s
invariant-loop-s g l = StoresBelow l.initial.elf l.elf l.tail l.end l.s
