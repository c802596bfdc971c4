use Rattle.std.proofs.Common.{arith}
use Rattle.std.proofs.KnownBytes.{Appends-kept}
use Rattle.elf_outside.proofs.Streams.{wrote_more}
use Rattle.elf_outside.proofs.real.transfers.write_to.Goals as goal
use Rattle.elf_outside.proofs.real.transfers.write_to.Goals.{in-Ok, in-Err}

pub loop-preserved : goal.loop-preserved
loop-preserved g c = elim c.match-write.branch [
  | in-Ok w ↦ record {
    in_range = omega (arith, w.in-Ok.ensures.bound);
    written = rw w.done-is (wrote_more _ _ _ _ _ _ c.loop.invariant.written w.in-Ok.ensures.bytes);
  }
  | in-Err w ↦ record {
    in_range = omega arith;
    written = rw w.done-is (Appends-kept _ _ _ _ c.loop.invariant.written w.in-Err.ensures.bytes);
  }
]
