use Rattle.std.proofs.Common.{◌≤◌, length}
use Rattle.elf_outside.proofs.real.transfers.write_from.Given as goal

abbrev pub invariant-loop : goal.invariant-loop
invariant-loop g l = l.done ≤ length l.piece
