-- The section headers so far.
use Rattle.elf_ident.proofs.PieceLemmas.{AreAdded}
use Rattle.elf_ident.proofs.tables.add_shdrs.Given as goal

abbrev pub invariant-loop-i : goal.invariant-loop-i
invariant-loop-i l = AreAdded l.h l.i l.bytes l.initial.shdrs l.shdrs
