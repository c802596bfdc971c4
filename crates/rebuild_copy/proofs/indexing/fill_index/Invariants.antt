use Rattle.rebuild_copy.specs.Rows.{held_in}
use Rattle.rebuild_copy.proofs.IndexLaws.{IndexedTo}
use Rattle.rebuild_copy.proofs.indexing.fill_index.Given as goal

abbrev pub invariant-loop-s : goal.invariant-loop-s
invariant-loop-s l =
    IndexedTo l.x (held_in l.x l.table) l.initial.index.sought l.index l.s
