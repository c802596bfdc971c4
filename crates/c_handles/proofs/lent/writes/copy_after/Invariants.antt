use Rattle.std.proofs.Common.{◌≡◌, ◌++◌, take, drop}
use Rattle.c_handles.specs.Lent.Writes.{with_writes}
use Rattle.c_handles.proofs.lent.writes.copy_after.Given as goal

abbrev pub invariant-loop-i : goal.invariant-loop-i
invariant-loop-i l =
    l.buf ≡ take l.i (drop l.at (with_writes l.writes l.bytes)) ++ drop l.i l.initial.buf
