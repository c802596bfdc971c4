use Rattle.std.proofs.Common.{◌≤◌, take, replicate}
use Rattle.std.specs.Io.KnownBytes.{Appends}
use Rattle.elf_outside.proofs.real.transfers.write_pages_to.Given as goal

-- the first zeros are written, and no others
abbrev pub invariant-loop : goal.invariant-loop
invariant-loop g l = record {
  in_range : l.done ≤ l.n;
  written : Appends (g.W.Write.contents l.initial.stream) (g.W.Write.contents l.stream)
      (take l.done (replicate l.n 0));
}
