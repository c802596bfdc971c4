use Rattle.rebuild_object.specs.Fitting.{AreSizesReady}
use Rattle.rebuild_object.proofs.fitting.are_sizes_ready.Given as goal

abbrev pub invariant-loop-s : goal.invariant-loop-s
invariant-loop-s l = AreSizesReady l.x l.s
