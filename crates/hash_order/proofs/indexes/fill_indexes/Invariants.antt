use Rattle.std.proofs.Common.{◌-◌, length}
use Rattle.hash_order.proofs.IndexLaws.{AreNewFrom}
use Rattle.hash_order.proofs.indexes.fill_indexes.Given as goal

abbrev pub invariant-loop-done : goal.invariant-loop-done
invariant-loop-done l = AreNewFrom l.order (length l.order - l.done) l.indexes
