use Rattle.std.proofs.Common.{◌≤◌, length, take}
use Rattle.std.specs.Io.KnownBytes.{Appends}
use Rattle.elf_outside.proofs.real.transfers.write_to.Given as goal

-- the first bytes of the piece are written, and no others
abbrev pub invariant-loop : goal.invariant-loop
invariant-loop g l = record {
  in_range : l.done ≤ length l.piece;
  written : Appends (g.W.Write.contents l.initial.stream) (g.W.Write.contents l.stream) (take l.done l.piece);
}
