use Rattle.std.proofs.Common.{◌≡◌, map}
use Rattle.std.specs.List.{range_with_len}
use Rattle.hash_build.specs.Hashed.{buckets_by}
use Rattle.hash_build.specs.Rows.{row_at}
use Rattle.hash_build.proofs.order.rows_of.Given as goal

abbrev pub invariant-loop-i : goal.invariant-loop-i
invariant-loop-i l =
    l.rows.items ≡ map (row_at (buckets_by l.nbuckets l.hashes)) (range_with_len 0 l.i)
