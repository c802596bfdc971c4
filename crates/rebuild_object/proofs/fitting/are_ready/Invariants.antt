use Rattle.rebuild_object.specs.Fitting.{AreSectionsReady}
use Rattle.rebuild_object.proofs.fitting.are_ready.Given as goal

abbrev pub invariant-loop-s : goal.invariant-loop-s
invariant-loop-s g l = AreSectionsReady l.elf.o l.x l.s
