use Rattle.std.proofs.Common.{◌≤◌}
use Rattle.elf_outside.proofs.real.transfers.write_pages_from.Given as goal

abbrev pub invariant-loop : goal.invariant-loop
invariant-loop g l = l.done ≤ l.n
