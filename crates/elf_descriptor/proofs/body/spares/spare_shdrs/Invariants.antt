-- The headers so far.
use Rattle.std.proofs.Common.{◌≡◌, length}
use Rattle.elf_descriptor.proofs.body.spares.spare_shdrs.Given as goal

abbrev pub invariant-loop-i : goal.invariant-loop-i
invariant-loop-i l = length l.shdrs ≡ l.i
