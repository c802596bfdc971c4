use Rattle.rebuild_making.specs.Placing.{StandsBelow}
use Rattle.rebuild_making.proofs.places.find_table_place.Given as goal

abbrev pub invariant-loop-s : goal.invariant-loop-s
invariant-loop-s g l = StandsBelow l.elf.o l.tail l.limit l.end l.s
