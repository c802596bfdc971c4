use Rattle.std.proofs.Common.{◌≡◌, slice_index_or, take}
use Rattle.c_handles.specs.Lent.Writes.{with_writes}
use Rattle.c_handles.proofs.lent.writes.byte_after.Given as goal

abbrev pub invariant-loop-write : goal.invariant-loop-write
invariant-loop-write l =
    l.byte ≡ slice_index_or (with_writes (take l.write-index l.writes) l.bytes) l.place 0
