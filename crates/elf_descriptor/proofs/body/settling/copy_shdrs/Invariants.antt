-- The headers so far.
use Rattle.elf_descriptor.proofs.Settling.{IsCopying, headers_in}
use Rattle.elf_descriptor.proofs.body.settling.copy_shdrs.Given as goal

abbrev pub invariant-loop-i : goal.invariant-loop-i
invariant-loop-i l = IsCopying l.i (headers_in l.from) l.to
