-- The program headers so far.
use Rattle.std.specs.Prelude.{All}
use Rattle.std.proofs.Common.{take}
use Rattle.section_table.specs.elf_xlate.Headers.{IsPhdr}
use Rattle.elf_descriptor.proofs.Settling.{IsCopying}
use Rattle.elf_descriptor.proofs.body.settling.copy_phdrs.Given as goal

abbrev pub invariant-loop-i : goal.invariant-loop-i
invariant-loop-i l = IsCopying l.i l.from l.to × All IsPhdr (take l.i l.from)
